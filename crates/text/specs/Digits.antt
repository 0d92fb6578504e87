-- Decimal digits of any width: a number's digits, and the number that digits say.
pub mod Laws
pub mod Measuring
pub mod Value
pub mod Writing
use Rattle.std.specs.Prelude.{Bool, true, false, ◌&&◌, List, [], ◌∷◌, ◌++◌, ℕ, zero, suc, ◌+◌, ◌-◌, ◌*◌, ◌/◌, ◌%◌, leb, ltb}
use Rattle.text.specs.Every.{every}

-- a byte from `0` to `9`
unfoldable pub is_digit : ℕ → Bool
is_digit b = leb 48 b && leb b 57

unfoldable pub all_digits : List ℕ → Bool
all_digits s = every is_digit s

-- the number that the digits s say behind digits that say a
unfoldable pub read_on : ℕ → List ℕ → ℕ
read_on a [] = a
read_on a (b ∷ s) = read_on (a * 10 + (b - 48)) s

-- the number that the digits s say
unfoldable pub number_of : List ℕ → ℕ
number_of s = read_on 0 s

-- the digits of n, the last one split off while there are more; below ten it is one digit. `fuel` bounds how many digits there can be
unfoldable pub digits_within : (fuel : ℕ) → Bool → ℕ → List ℕ
digits_within zero small n = (48 + n % 10) ∷ []
digits_within (suc fuel) true n = (48 + n % 10) ∷ []
digits_within (suc fuel) false n = digits_within fuel (ltb (n / 10) 10) (n / 10) ++ ((48 + n % 10) ∷ [])

-- the decimal digits of n, without leading zeros
unfoldable pub digits : ℕ → List ℕ
digits n = digits_within n (ltb n 10) n
