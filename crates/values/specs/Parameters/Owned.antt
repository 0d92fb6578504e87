-- The parameters of a module are its own.
use Rattle.std.specs.Prelude.{◌≡◌, refl, List, [], ◌∷◌, ℕ, ◌+◌}
use Rattle.catalogue.specs.Catalogue.{rows_of}
use Rattle.values.specs.Parameters.{numbered, parameters_of}
use Rattle.catalogue.specs.declared.row.Row.{Row}
use Rattle.room.specs.declared.table.Module.{Module}
use Rattle.values.specs.declared.parameter.Parameter.{Parameter}

-- each of some parameters is the module m's
abbrev pub Owned : Module → List Parameter → Type 0
Owned m [] = Unit
Owned m (p ∷ ps) = (p.owner ≡ m) × Owned m ps

numbered-owned : (m : Module) (n : ℕ) (rs : List Row) → Owned m (numbered m n rs)
unfolding numbered
numbered-owned m n [] = tt
numbered-owned m n (r ∷ rs) = (refl, numbered-owned m (n + 1) rs)

pub owned : (m : Module) → Owned m (parameters_of m)
unfolding parameters_of
owned m = numbered-owned m 0 (rows_of m.layout)
