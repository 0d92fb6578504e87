-- Routing words: a bit for each of 32 outputs, as one number; and such a word as eight hex digits.
pub mod Bits
pub mod Outputs
pub mod Apart
pub mod Skipping
pub mod Steps
pub mod Text
pub mod Reading
pub mod Writing
pub mod Examples
use Rattle.std.specs.Prelude.{cond, ◌&&◌, List, [], ◌∷◌, ℕ, zero, suc, ◌+◌, ◌-◌, ◌*◌, ◌/◌, ◌%◌, eqb, length, Option, Some, None}
use Rattle.text.specs.Every.{every}
use Rattle.text.specs.Hex.{is_hex_digit, hex_digits, hex_on}

-- the bit that stands k places above the lowest
unfoldable pub bit_at : ℕ → ℕ → ℕ
bit_at zero w = w % 2
bit_at (suc k) w = bit_at k (w / 2)

-- the word with b there, and every other bit as it was
unfoldable pub put_at : ℕ → ℕ → ℕ → ℕ
put_at zero b w = w / 2 * 2 + b
put_at (suc k) b w = put_at k b (w / 2) * 2 + w % 2

-- whether a word has output o: output 1 is the highest of the 32 bits, output 32 the lowest
unfoldable pub bit : ℕ → ℕ → ℕ
bit o w = bit_at (32 - o) w

-- the word with b for output o, and every other output as it was
unfoldable pub with_bit : ℕ → ℕ → ℕ → ℕ
with_bit o b w = put_at (32 - o) b w

-- the outputs from 1 to the given one in which two words differ, the last of them first
unfoldable pub differing_to : ℕ → ℕ → ℕ → List ℕ
differing_to zero v w = []
differing_to (suc o) v w = cond (eqb (bit (suc o) v) (bit (suc o) w)) (differing_to o v w) (suc o ∷ differing_to o v w)

-- the outputs in which two words differ
unfoldable pub differing : ℕ → ℕ → List ℕ
differing v w = differing_to 32 v w

-- the one element of a list that has just one, else 0
unfoldable pub single : List ℕ → ℕ
single [] = 0
single (o ∷ []) = o
single (o ∷ p ∷ os) = 0

-- the output in which two words differ, where it is one alone, else 0
unfoldable pub only_differing : ℕ → ℕ → ℕ
only_differing v w = single (differing v w)

-- a word as it is written: eight hex digits
unfoldable pub hex_text : ℕ → List ℕ
hex_text w = hex_digits 8 w

-- what a word's text says: exactly eight hex digits
unfoldable pub read_hex : List ℕ → Option ℕ
read_hex s = cond (eqb (length s) 8 && every is_hex_digit s) (Some (hex_on 0 s)) None
