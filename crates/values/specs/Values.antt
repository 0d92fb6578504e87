-- The value list: one value for each parameter, in the parameters' order.
pub mod Compared
pub mod Each
pub mod Few
pub mod Fitting
pub mod Laws
pub mod Number
pub mod Tested
use Rattle.std.specs.Prelude.{Bool, true, false, cond, ◌&&◌, List, [], ◌∷◌, ℕ, ◌*◌, eqb, ℤ, pos, negsuc, length}
use Rattle.catalogue.specs.Catalogue.{row_limit}
use Rattle.catalogue.specs.Row.{permitted}
use Rattle.room.specs.Table.{record_limit}
use Rattle.values.specs.Parameters.{parameters}
use Rattle.values.specs.Room.{Room, row_in}
use Rattle.values.specs.declared.parameter.Parameter.{Parameter}

-- each entry is permitted in the room
unfoldable pub each_permitted : Room → List Parameter → List ℤ → Bool
each_permitted r [] vs = true
each_permitted r (p ∷ ps) [] = true
each_permitted r (p ∷ ps) (v ∷ vs) = permitted (row_in r p) v && each_permitted r ps vs

-- two values are the same
unfoldable pub equal : ℤ → ℤ → Bool
equal (pos m) (pos n) = eqb m n
equal (pos m) (negsuc n) = false
equal (negsuc m) (pos n) = false
equal (negsuc m) (negsuc n) = eqb m n

-- as many values as parameters, and each is permitted in the room, whether or not a line may set it
unfoldable pub values_sound : Room → List ℤ → Bool
values_sound r vs = eqb (length vs) (length (parameters r.table)) && each_permitted r (parameters r.table) vs

-- how many values a table may have
unfoldable pub value_limit : ℕ
value_limit = record_limit * row_limit

-- 2 the values are wrong
unfoldable pub values_number : Room → List ℤ → ℕ
values_number r vs = cond (values_sound r vs) 0 2
