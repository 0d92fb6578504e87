-- The wanted changes of some parameters.
use Rattle.std.specs.Prelude.{ℕ, ℤ}
use mathlib.Core.List.{List}
use Rattle.values.specs.declared.parameter.Parameter.{Parameter}
use Rattle.wish.specs.Target.{target_of}
use Rattle.wish.specs.Listing.{Change, changes_of}

-- the wanted changes of some parameters
abbrev pub wanted_changes : (selection : List ℕ) → List Parameter → (present wanted : List ℤ) → List Change
wanted_changes selection ps vs ws = changes_of ps vs (target_of selection ps vs ws)
