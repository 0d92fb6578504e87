-- Worked words, computed by the definitions themselves.
use Rattle.std.specs.Prelude.{◌≡◌, refl, List, [], ◌∷◌, ℕ, Option, Some, None}
use Rattle.text.specs.Digits.{is_digit}
use Rattle.text.specs.Every.{every}
use Rattle.text.specs.Hex.{is_hex_digit, hex_value, hex_digit, hex_digits, hex_on}
use Rattle.text.specs.Switch.Examples.{Gives}
use Rattle.text.specs.Word.{bit_at, bit, differing_to, differing, hex_text, read_hex}

-- words, and texts that are none
abbrev words_read_cases : List (List ℕ × Option ℕ)
words_read_cases =
    (56 ∷ 48 ∷ 48 ∷ 48 ∷ 48 ∷ 48 ∷ 48 ∷ 49 ∷ [], Some 2147483649) ∷  -- `80000001`
    (70 ∷ 70 ∷ 70 ∷ 70 ∷ 70 ∷ 70 ∷ 70 ∷ 70 ∷ [], Some 4294967295) ∷  -- `FFFFFFFF`
    (102 ∷ 48 ∷ 48 ∷ 48 ∷ 48 ∷ 48 ∷ 48 ∷ 48 ∷ [], None) ∷  -- `f0000000`
    (70 ∷ 48 ∷ 48 ∷ 48 ∷ 48 ∷ 48 ∷ 48 ∷ [], None) ∷  -- `F000000`
    (70 ∷ 48 ∷ 48 ∷ 48 ∷ 48 ∷ 48 ∷ 48 ∷ 48 ∷ 48 ∷ [], None) ∷  -- `F00000000`
    (48 ∷ [], None) ∷  -- `0`
    []

pub words-read : Gives read_hex words_read_cases
unfolding is_digit every is_hex_digit hex_value hex_on read_hex
words-read = refl

pub word-written : hex_text 2147483649 ≡ 56 ∷ 48 ∷ 48 ∷ 48 ∷ 48 ∷ 48 ∷ 48 ∷ 49 ∷ []
unfolding hex_digit hex_digits hex_text
word-written = refl

-- `80000001` has outputs 1 and 32, and no other
pub first-and_last : differing 0 2147483649 ≡ 32 ∷ 1 ∷ []
unfolding bit_at bit differing_to differing
first-and_last = refl
