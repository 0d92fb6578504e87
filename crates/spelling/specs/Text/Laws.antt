-- Laws of a value's text: what it is by its kind, that it has at most eight bytes, and which bytes it has.
use Rattle.std.specs.Prelude.{◌≡◌, refl, true, false, ℕ, ◌≤◌, ℤ, nat_abs, length}
use Rattle.std.proofs.Common.{arith}
use Rattle.text.specs.Byte.Values.{value_byte, digits-bytes, level-bytes, no_other, switch-bytes, word_bytes}
use Rattle.text.specs.Cut.{index_of}
use Rattle.text.specs.Digits.{digits}
use Rattle.text.specs.Digits.Value.{digits-short}
use Rattle.text.specs.Every.{every}
use Rattle.text.specs.Level.{level_text}
use Rattle.text.specs.Level.Laws.{level-at_most_five}
use Rattle.text.specs.Switch.{switch_text}
use Rattle.text.specs.Switch.Laws.{switch-length}
use Rattle.text.specs.Word.{hex_text}
use Rattle.text.specs.Word.Text.{word-length}
use Rattle.catalogue.specs.Catalogue.Sized.{Sized}
use Rattle.catalogue.specs.Catalogue.Sized as row
use Rattle.catalogue.specs.declared.row.Kind.{Kind}
use Rattle.catalogue.specs.declared.row.Kind.TheVariants as kind
use Rattle.spelling.specs.Text.{text_of}

-- ---- by its kind

pub level_text_lem : (v : ℤ) → text_of kind.Level v ≡ level_text v
unfolding text_of
level_text_lem v = refl

pub switch_text_lem : (v : ℤ) → text_of kind.Switch v ≡ switch_text (nat_abs v)
unfolding text_of
switch_text_lem v = refl

pub number-text : (v : ℤ) → text_of kind.Number v ≡ digits (nat_abs v)
unfolding text_of
number-text v = refl

pub word-text : (v : ℤ) → text_of kind.Word v ≡ hex_text (nat_abs v)
unfolding text_of
word-text v = refl

-- ---- at most eight bytes, and no byte but a value's

pub text-short : (k : Kind) (x : ℤ) → Sized k x → length (text_of k x) ≤ 8
unfolding text_of
text-short k x (row.level v h) = omega (arith, level-at_most_five v h)
text-short k x row.off = omega (arith, switch-length 0)
text-short k x row.on = omega (arith, switch-length 1)
text-short k x (row.number n h) = omega (arith, digits-short n 5 (omega arith) h)
text-short k x (row.word w h) = omega (arith, word-length w)

pub text-bytes : (k : Kind) (x : ℤ) → every value_byte (text_of k x) ≡ true
unfolding text_of
text-bytes kind.Level x = level-bytes x
text-bytes kind.Switch x = switch-bytes (nat_abs x)
text-bytes kind.Number x = digits-bytes (nat_abs x)
text-bytes kind.Word x = word_bytes (nat_abs x)

pub text-lacks : (b : ℕ) (k : Kind) (x : ℤ) → value_byte b ≡ false → index_of b (text_of k x) ≡ length (text_of k x)
text-lacks b k x n = no_other b (text_of k x) n (text-bytes k x)
