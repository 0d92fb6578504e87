-- How long the text of a value of 64 bits is, whatever its kind.
use Rattle.std.specs.Prelude.{◌/◌, ◌%◌, ◌≤◌, ◌^◌, ℤ, pos, negsuc, nat_abs, length}
use Rattle.std.proofs.Common.{arith, SFits}
use Rattle.std.specs.Int.{w64}
use Rattle.text.specs.Digits.Value.{digits-short}
use Rattle.text.specs.Level.Laws.{level-length, sign_short}
use Rattle.text.specs.Level.Told.{tenth_short}
use Rattle.text.specs.Switch.Laws.{switch-length}
use Rattle.text.specs.Word.Text.{word-length}
use Rattle.catalogue.specs.declared.row.Kind.{Kind}
use Rattle.catalogue.specs.declared.row.Kind.TheVariants as kind
use Rattle.spelling.specs.Text.{text_of}
use Rattle.spelling.specs.Text.Laws.{level_text_lem, number-text, switch_text_lem, word-text}

size : (v : ℤ) → SFits w64 v → nat_abs v ≤ 2 ^ 63
size (pos n) f = omega (arith, f.sfits)
size (negsuc n) f = omega (arith, f.sfits)

-- a sign, 18 digits and a tenth
pub held-text : (k : Kind) (v : ℤ) → SFits w64 v → length (text_of k v) ≤ 21
held-text kind.Level v f =
    let s = sign_short v in
    let b = size v f in
    let d = digits-short (nat_abs v / 10) 18 (omega arith) (omega arith) in
    let t = tenth_short (nat_abs v % 10) in
    rw (level_text_lem v) (omega (arith, level-length v))
held-text kind.Switch v f = rw (switch_text_lem v) (omega (arith, switch-length (nat_abs v)))
held-text kind.Number v f =
    let b = size v f in
    let d = digits-short (nat_abs v) 19 (omega arith) (omega arith) in
    rw (number-text v) (omega arith)
held-text kind.Word v f = rw (word-text v) (omega (arith, word-length (nat_abs v)))
