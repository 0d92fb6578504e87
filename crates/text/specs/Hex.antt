-- Hex digits: a byte for each, capitals alone, and a number as a fixed count of them.
pub mod Laws
pub mod Value
use Rattle.std.specs.Prelude.{Bool, cond, ◌&&◌, ◌||◌, List, [], ◌∷◌, ◌++◌, ℕ, zero, suc, ◌+◌, ◌-◌, ◌*◌, ◌/◌, ◌%◌, leb, ltb}
use Rattle.text.specs.Digits.{is_digit}

-- a byte from `0` to `9` or from `A` to `F`
unfoldable pub is_hex_digit : ℕ → Bool
is_hex_digit b = is_digit b || (leb 65 b && leb b 70)

-- the number that such a byte says: `A` says ten
unfoldable pub hex_value : ℕ → ℕ
hex_value b = cond (leb b 57) (b - 48) (b - 65 + 10)

-- the byte that says d, for d below sixteen
unfoldable pub hex_digit : ℕ → ℕ
hex_digit d = cond (ltb d 10) (48 + d) (65 + (d - 10))

-- the last `count` hex digits of n, leading zeros among them
unfoldable pub hex_digits : (count : ℕ) → ℕ → List ℕ
hex_digits zero n = []
hex_digits (suc count) n = hex_digits count (n / 16) ++ (hex_digit (n % 16) ∷ [])

-- the number that the hex digits s say behind digits that say a
unfoldable pub hex_on : ℕ → List ℕ → ℕ
hex_on a [] = a
hex_on a (b ∷ s) = hex_on (a * 16 + hex_value b) s
