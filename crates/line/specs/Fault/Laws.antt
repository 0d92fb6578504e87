-- The two numbers of a fault, as rules for code that tells them.
use Rattle.std.specs.Prelude.{◌≡◌, refl, [], ◌∷◌, ℕ, get_or, None, Option, Some}
use Rattle.syntax.specs.Cause.{cause_number}
use Rattle.line.specs.Fault.{fault_numbers}
use Rattle.syntax.specs.declared.cause.Malformed.{Malformed}

pub none_numbers : (f : Option Malformed) → f ≡ None → 0 ∷ 0 ∷ [] ≡ fault_numbers f
unfolding fault_numbers
none_numbers f h = rw h

pub fault_numbers_lem : (f : Option Malformed) (m : Malformed) (n : ℕ) → f ≡ Some m → n ≡ cause_number m.cause → n ∷ m.place ∷ [] ≡ fault_numbers f
unfolding fault_numbers
fault_numbers_lem f m n h k = rw (h, k) refl

pub ruleset numbering = (none_numbers, fault_numbers_lem)

-- there are two of them
pub two_numbers : (f : Option Malformed) → get_or (fault_numbers f) 0 0 ∷ get_or (fault_numbers f) 1 0 ∷ [] ≡ fault_numbers f
unfolding fault_numbers
two_numbers None = refl
two_numbers (Some m) = refl
