-- The bytes that values are written with. None of them ends a line, quotes a label or stands before a value.
use Rattle.std.specs.Prelude.{◌≡◌, refl, Bool, true, false, cond, ◌||◌, List, [], ◌∷◌, ℕ, zero, suc, ◌+◌, ◌/◌, ◌%◌, ◌<◌, eqb, ltb, ℤ, pos, negsuc, nat_abs, length}
use Rattle.std.proofs.Math.Decide.{dec_lt}
use Rattle.std.proofs.Common.{arith, le-leb, lt-ltb, ne_eqb}
use Rattle.std.proofs.lemmas.Bool.{lt-leb}
use Rattle.text.specs.Byte.{is_byte}
use Rattle.text.specs.Cut.{index_of}
use Rattle.text.specs.Cut.Laws.{index_none}
use Rattle.text.specs.Digits.{is_digit, all_digits, digits}
use Rattle.text.specs.Digits.Laws.{is_digit_lem, digit_and_rest, digits-are_digits}
use Rattle.text.specs.Level.{sign_text, tenth_text, short_tenth_text, whole_text, level_text}
use Rattle.text.specs.Switch.{switch_text}
use Rattle.text.specs.Every.{every}
use Rattle.text.specs.Every.Laws.{every_append, every-weaker, never}
use Rattle.text.specs.Hex.{is_hex_digit}
use Rattle.text.specs.Word.{hex_text}
use Rattle.text.specs.Word.Text.{word-hex}

-- a hex digit, `-`, `.` or `O`; `F` is a hex digit too
unfoldable pub value_byte : ℕ → Bool
value_byte b = is_hex_digit b || eqb b 45 || eqb b 46 || eqb b 79

digit_byte : (b : ℕ) → is_digit b ≡ true → value_byte b ≡ true
unfolding value_byte is_hex_digit
digit_byte b h = rw h

hex_byte : (b : ℕ) → is_hex_digit b ≡ true → value_byte b ≡ true
unfolding value_byte
hex_byte b h = rw h

-- ---- each text is made of them

all_digit_bytes : (s : List ℕ) → all_digits s ≡ true → every value_byte s ≡ true
unfolding every
all_digit_bytes [] h = refl
all_digit_bytes (b ∷ s) h =
    let k = digit_and_rest b s h in
    rw (digit_byte b k.0) (all_digit_bytes s k.1)

pub digits-bytes : (n : ℕ) → every value_byte (digits n) ≡ true
digits-bytes n = all_digit_bytes (digits n) (digits-are_digits n)

sign_bytes : (v : ℤ) → every value_byte (sign_text v) ≡ true
unfolding every value_byte sign_text is_hex_digit is_digit
sign_bytes (pos n) = refl
sign_bytes (negsuc n) = refl

point_byte : value_byte 46 ≡ true
unfolding value_byte is_hex_digit is_digit
point_byte = refl

tenth_bytes : (d : ℕ) → d < 10 → every value_byte (tenth_text d) ≡ true
unfolding every tenth_text
tenth_bytes d h = rw (point_byte, digit_byte (48 + d) (is_digit_lem (48 + d) (omega arith) (omega arith)))

short_tenth_bytes : (d : ℕ) → d < 10 → every value_byte (short_tenth_text d) ≡ true
unfolding every short_tenth_text
short_tenth_bytes zero h = refl
short_tenth_bytes (suc d) h = tenth_bytes (suc d) h

whole-bytes : (v : ℤ) → every value_byte (whole_text v) ≡ true
unfolding whole_text
whole-bytes v = every_append value_byte (sign_text v) (digits (nat_abs v / 10)) (sign_bytes v) (digits-bytes (nat_abs v / 10))

pub level-bytes : (v : ℤ) → every value_byte (level_text v) ≡ true
unfolding level_text
level-bytes v =
    every_append value_byte (whole_text v) (short_tenth_text (nat_abs v % 10)) (whole-bytes v)
    (short_tenth_bytes (nat_abs v % 10) (omega arith))

letter_bytes : (t : Bool) → every value_byte (cond t 70 79 ∷ []) ≡ true
unfolding every value_byte is_hex_digit is_digit
letter_bytes true = refl
letter_bytes false = refl

pub switch-bytes : (n : ℕ) → every value_byte (switch_text n) ≡ true
unfolding switch_text
switch-bytes n = letter_bytes (eqb n 0)

pub word_bytes : (w : ℕ) → every value_byte (hex_text w) ≡ true
word_bytes w = every-weaker is_hex_digit value_byte hex_byte (hex_text w) (word-hex w)

-- ---- and has none of the others

pub no_other : (b : ℕ) (s : List ℕ) → value_byte b ≡ false → every value_byte s ≡ true → index_of b s ≡ length s
no_other b s n h = index_none value_byte b s h n

-- 0D, a quote, and `=`
pub return_other : value_byte 0x0D ≡ false
unfolding value_byte is_hex_digit is_digit
return_other = refl

pub quote_other : value_byte 0x22 ≡ false
unfolding value_byte is_hex_digit is_digit
quote_other = refl

pub equals-other : value_byte 0x3D ≡ false
unfolding value_byte is_hex_digit is_digit
equals-other = refl

-- ---- they are bytes

below_256 : (b : ℕ) → value_byte b ≡ true → is_byte b ≡ true
unfolding value_byte is_hex_digit is_digit is_byte
below_256 b h = go (dec_lt b 256)
  where
    go : Dec (b < 256) → ltb b 256 ≡ true
    go (yes l) = lt-ltb b 256 l
    go (no n) =
        never
        (rw (
          le-leb 48 b (omega arith),
          lt-leb b 57 (omega arith),
          le-leb 65 b (omega arith),
          lt-leb b 70 (omega arith),
          ne_eqb b 45 (λ e. omega arith),
          ne_eqb b 46 (λ e. omega arith),
          ne_eqb b 79 (λ e. omega arith),
        ) at h)

pub are_bytes : (s : List ℕ) → every value_byte s ≡ true → every is_byte s ≡ true
are_bytes s h = every-weaker value_byte is_byte below_256 s h
