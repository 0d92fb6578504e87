-- Level texts, in tenths of a dB: how one is read, from the left, and how one is written.
pub mod Examples
pub mod From
pub mod Laws
pub mod Length
pub mod Measuring
pub mod Passed
pub mod Reading
pub mod Sign
pub mod Told
pub mod Writing
use Rattle.std.specs.Prelude.{Bool, true, false, cond, List, [], ◌∷◌, ◌++◌, ℕ, zero, suc, ◌+◌, ◌-◌, ◌*◌, ◌/◌, ◌%◌, eqb, ℤ, pos, negsuc, neg_ℤ, nat_abs, Option, Some, None}
use Rattle.text.specs.Digits.{is_digit, digits}

-- n with a minus sign or without; with one, 0 is 0
unfoldable pub signed : Bool → ℕ → ℤ
signed true n = neg_ℤ (pos n)
signed false n = pos n

-- behind the point: exactly one digit
unfoldable pub level_tenth : Bool → ℕ → List ℕ → Option ℤ
level_tenth minus whole [] = None
level_tenth minus whole (b ∷ []) = cond (is_digit b) (Some (signed minus (whole * 10 + (b - 48)))) None
level_tenth minus whole (b ∷ c ∷ s) = None

-- behind the whole part: the end, or a point
unfoldable pub level_point : Bool → ℕ → List ℕ → Option ℤ
level_point minus whole [] = Some (signed minus (whole * 10))
level_point minus whole (b ∷ s) = cond (eqb b 46) (level_tenth minus whole s) None

-- behind the first digit: a second one, or what follows the whole part
unfoldable pub level_more : Bool → ℕ → List ℕ → Option ℤ
level_more minus whole [] = level_point minus whole []
level_more minus whole (b ∷ s) = cond (is_digit b) (level_point minus (whole * 10 + (b - 48)) s) (level_point minus whole (b ∷ s))

-- behind the sign: a digit
unfoldable pub level_whole : Bool → List ℕ → Option ℤ
level_whole minus [] = None
level_whole minus (b ∷ s) = cond (is_digit b) (level_more minus (b - 48) s) None

-- a level text: perhaps a `-`, then one or two digits, then perhaps a point and one digit more
unfoldable pub read_level : List ℕ → Option ℤ
read_level [] = None
read_level (b ∷ s) = cond (eqb b 45) (level_whole true s) (level_whole false (b ∷ s))

-- the sign of v: a `-` where v is below 0
unfoldable pub sign_text : ℤ → List ℕ
sign_text (pos n) = []
sign_text (negsuc n) = 45 ∷ []

-- a point and the tenth d
unfoldable pub tenth_text : ℕ → List ℕ
tenth_text d = 46 ∷ (48 + d) ∷ []

-- nothing where the tenth is 0
unfoldable pub short_tenth_text : ℕ → List ℕ
short_tenth_text zero = []
short_tenth_text (suc d) = tenth_text (suc d)

-- the sign and the whole part of v tenths
unfoldable pub whole_text : ℤ → List ℕ
whole_text v = sign_text v ++ digits (nat_abs v / 10)

-- the shortest text of v tenths, as replies and set lines have it: `-4`, `0.5`, `-0.5`, `0`
unfoldable pub level_text : ℤ → List ℕ
level_text v = whole_text v ++ short_tenth_text (nat_abs v % 10)
