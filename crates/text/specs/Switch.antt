-- Switch texts: `O` on, `F` off, and `T`, which turns the present value over.
pub mod Examples
pub mod Laws
pub mod Writing
use Rattle.std.specs.Prelude.{cond, List, [], ◌∷◌, ℕ, eqb, Option, Some, None}
use Rattle.text.specs.declared.switch.Switch.{Switch}
use Rattle.text.specs.declared.switch.Switch.TheVariants.{On, Off, Turn}

-- what one letter says
unfoldable pub switch_letter : ℕ → Option Switch
switch_letter b = cond (eqb b 79) (Some On) (cond (eqb b 70) (Some Off) (cond (eqb b 84) (Some Turn) None))

-- a switch text is exactly one letter
unfoldable pub read_switch : List ℕ → Option Switch
read_switch [] = None
read_switch (b ∷ []) = switch_letter b
read_switch (b ∷ c ∷ s) = None

-- a switch as it is written: `F` where it is 0, else `O`
unfoldable pub switch_text : ℕ → List ℕ
switch_text n = cond (eqb n 0) 70 79 ∷ []
