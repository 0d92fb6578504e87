-- What lines can set: a parameter of the table, and to which values in a room.
use Rattle.std.specs.Prelude.{◌≡◌, true, List, ℕ, ℤ, Some}
use Rattle.catalogue.specs.Row.{permitted}
use Rattle.room.specs.Label.{label, bearer}
use Rattle.values.specs.Parameters.{parameters, parameter_at, place}
use Rattle.values.specs.Room.{Room, row_in}
use Rattle.values.specs.declared.parameter.Parameter.{Parameter}

-- a parameter of the table that a line can set: its row may be set, and its module alone bears its label
pub record Settable (t : List ℕ) (p : Parameter) : Type 0 where
  pub listed : parameter_at (parameters t) (place p) ≡ Some p
  pub settable : p.row.settable ≡ true
  pub only : bearer t (label t p.owner) ≡ Some p.owner

-- a line can set p to x: x is permitted in the room
pub record Puttable (r : Room) (p : Parameter) (x : ℤ) : Type 0 where
  pub reached : Settable r.table p
  pub permits : permitted (row_in r p) x ≡ true
