-- Labels: which modules bear a text.
pub mod Laws
pub mod Length
pub mod Match
pub mod Sought
use Rattle.std.specs.Prelude.{Bool, true, false, cond, ◌&&◌, List, [], ◌∷◌, ℕ, ◌+◌, eqb, take, drop, Option, Some, None}
use Rattle.text.specs.Cut.{before}
use Rattle.room.specs.Table.{modules}
use Rattle.room.specs.declared.table.Module.{Module}

-- a module's label: of its field, the bytes before the zero bytes
unfoldable pub label : List ℕ → Module → List ℕ
label t m = before 0 (take 32 (drop (m.place + 1) t))

-- byte for byte the same
unfoldable pub same : List ℕ → List ℕ → Bool
same [] [] = true
same [] (b ∷ u) = false
same (a ∷ s) [] = false
same (a ∷ s) (b ∷ u) = eqb a b && same s u

-- the modules that bear the text
unfoldable pub bearers_in : List ℕ → List ℕ → List Module → List Module
bearers_in t text [] = []
bearers_in t text (m ∷ ms) = cond (same (label t m) text) (m ∷ bearers_in t text ms) (bearers_in t text ms)

-- exactly one module, or not exactly one
unfoldable pub exactly_one : List Module → Option Module
exactly_one [] = None
exactly_one (m ∷ []) = Some m
exactly_one (m ∷ n ∷ ms) = None

-- the module of the table t that alone bears the text
unfoldable pub bearer : List ℕ → List ℕ → Option Module
bearer t text = exactly_one (bearers_in t text (modules t))
