-- Why a line was answered with 99, in numbers: the cause's and its place, or zeros where there is none.
pub mod Laws
use Rattle.std.specs.Prelude.{List, [], ◌∷◌, ℕ, None, Option, Some}
use Rattle.syntax.specs.Cause.{cause_number}
use Rattle.syntax.specs.declared.cause.Malformed.{Malformed}

unfoldable pub fault_numbers : Option Malformed → List ℕ
fault_numbers None = 0 ∷ 0 ∷ []
fault_numbers (Some m) = cause_number m.cause ∷ m.place ∷ []
