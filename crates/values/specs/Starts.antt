-- The start values: one for each parameter, in the parameters' order.
pub mod Filling
pub mod Right
use Rattle.std.specs.Prelude.{◌≡◌, List, [], ◌∷◌, ◌++◌, ℕ, ℤ, drop, length}
use Rattle.catalogue.specs.Row.{start}
use Rattle.values.specs.Parameters.{parameters}
use Rattle.values.specs.declared.parameter.Parameter.{Parameter}

-- the values that a program starts with
unfoldable pub starts_of : List Parameter → List ℤ
starts_of [] = []
starts_of (p ∷ ps) = start p.row ∷ starts_of ps

unfoldable pub starts : List ℕ → List ℤ
starts t = starts_of (parameters t)

-- a list after the start values were put at its beginning: how many they are is the answer, and later entries stay
pub record Started (t : List ℕ) (values : List ℤ) (answer : ℕ) (after : List ℤ) : Type 0 where
  pub count : answer ≡ length (starts t)
  pub list : after ≡ starts t ++ drop (length (starts t)) values
