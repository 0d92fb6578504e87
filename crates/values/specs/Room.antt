-- A room as values are judged in it: the lent lists, and the row by which each value is judged.
pub mod Laws
use Rattle.std.specs.Prelude.{List, ℕ}
use Rattle.catalogue.specs.declared.row.Row.{Row}
use Rattle.values.specs.declared.parameter.Parameter.{Parameter}

-- the lent lists by which values are judged
pub record Room : Type 0 where
  pub table : List ℕ

-- the room of lent lists
abbrev pub room_of : (table : List ℕ) → Room
room_of t = record { table = t }

-- the row by which a parameter's value is judged: its own
unfoldable pub row_in : Room → Parameter → Row
row_in r p = p.row
