-- Which values the rows of a module permit.
pub mod Mixed
pub mod Testing
use Rattle.std.specs.Prelude.{Bool, true, ◌&&◌, List, [], ◌∷◌, ℤ}
use Rattle.catalogue.specs.Row.{permitted}
use Rattle.catalogue.specs.declared.row.Row.{Row}

-- each value is permitted for its row
unfoldable pub rows_permit : List Row → List ℤ → Bool
rows_permit [] vs = true
rows_permit (r ∷ rs) [] = true
rows_permit (r ∷ rs) (v ∷ vs) = permitted r v && rows_permit rs vs
