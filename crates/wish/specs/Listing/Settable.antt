-- Changes of rows that can be set.
use Rattle.std.specs.Prelude.{Bool, true, ◌&&◌}
use mathlib.Core.List.{List, [], ◌∷◌}
use Rattle.wish.specs.Listing.{Change}

-- no change is of a read-only row
unfoldable pub all_settable : List Change → Bool
all_settable [] = true
all_settable (c ∷ cs) = c.parameter.row.settable && all_settable cs
