-- Worked texts of switches, computed by the definitions themselves.
use Rattle.std.specs.Prelude.{◌≡◌, refl, List, [], ◌∷◌, map, ℕ, Option, Some, None}
use Rattle.text.specs.Switch.{switch_letter, read_switch}
use Rattle.text.specs.declared.switch.Switch.{Switch}
use Rattle.text.specs.declared.switch.Switch.TheVariants as switch

-- f gives each first part its second
abbrev pub Gives : {A B : Type 0} → (A → B) → List (A × B) → Type 0
Gives {A} {B} f cases = map (λ (c : A × B). f c.0) cases ≡ map (λ (c : A × B). c.1) cases

-- switches, and texts that are none
abbrev switches_read_cases : List (List ℕ × Option Switch)
switches_read_cases =
    (79 ∷ [], Some switch.On) ∷  -- `O`
    (70 ∷ [], Some switch.Off) ∷  -- `F`
    (84 ∷ [], Some switch.Turn) ∷  -- `T`
    (111 ∷ [], None) ∷  -- `o`
    (48 ∷ [], None) ∷  -- `0`
    (79 ∷ 79 ∷ [], None) ∷  -- `OO`
    ([], None) ∷  -- nothing
    []

pub switches_read : Gives read_switch switches_read_cases
unfolding switch_letter read_switch
switches_read = refl
