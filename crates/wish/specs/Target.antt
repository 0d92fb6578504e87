-- The wish: a selection byte for each module, wanted values, and the values that every parameter is to have.
pub mod Choice
pub mod Laws
pub mod Selecting
pub mod Wanting
use Rattle.std.specs.Prelude.{Bool, true, not, cond, ◌&&◌, ◌||◌, List, [], ◌∷◌, ℕ, suc, eqb, leb, ℤ, length, get_or}
use Rattle.catalogue.specs.Row.{permitted}
use Rattle.text.specs.Every.{every}
use Rattle.room.specs.Table.{modules}
use Rattle.values.specs.Parameters.{parameters}
use Rattle.values.specs.Room.{Room, room_of, row_in}
use Rattle.values.specs.declared.parameter.Parameter.{Parameter}
use Rattle.values.specs.Values.{equal}

-- the room and the present values, the chosen modules and their wanted values
pub record Wish : Type 0 where
  pub room : Room
  pub present : List ℤ
  pub selection : List ℕ
  pub wanted : List ℤ

-- the wish of lent lists
abbrev pub wish_of : (table : List ℕ) → (present : List ℤ) → (selection : List ℕ) → (wanted : List ℤ) → Wish
wish_of t vs selection ws = record { room = room_of t; present = vs; selection = selection; wanted = ws }

-- one selection byte for each module: 1 chosen, 0 not
unfoldable pub at_most_one : ℕ → Bool
at_most_one b = leb b 1

unfoldable pub selection_right : (table selection : List ℕ) → Bool
selection_right t selection = eqb (length selection) (length (modules t)) && every at_most_one selection

-- the parameter's module is chosen
unfoldable pub chosen : (selection : List ℕ) → Parameter → Bool
chosen selection p = eqb (get_or selection p.owner.number 0) 1

-- each chosen module's entry is permitted in the room; an unchosen one's may be anything
unfoldable pub chosen_permitted : Room → (selection : List ℕ) → List Parameter → List ℤ → Bool
chosen_permitted r selection [] ws = true
chosen_permitted r selection (p ∷ ps) [] = true
chosen_permitted r selection (p ∷ ps) (w ∷ ws) = (not (chosen selection p) || permitted (row_in r p) w) && chosen_permitted r selection ps ws

-- the wanted list is as long as the value list, and only chosen modules' entries count
unfoldable pub wanted_right : Room → (selection : List ℕ) → (wanted : List ℤ) → Bool
wanted_right r selection ws = eqb (length ws) (length (parameters r.table)) && chosen_permitted r selection (parameters r.table) ws

-- what every parameter is to have: the wanted value in a chosen module, the present one in any other
unfoldable pub target_of : (selection : List ℕ) → List Parameter → (present wanted : List ℤ) → List ℤ
target_of selection [] vs ws = []
target_of selection (p ∷ ps) [] ws = []
target_of selection (p ∷ ps) (v ∷ vs) [] = []
target_of selection (p ∷ ps) (v ∷ vs) (w ∷ ws) = cond (chosen selection p) w v ∷ target_of selection ps vs ws

-- the target list of a wish
unfoldable pub target : Wish → List ℤ
target w = target_of w.selection (parameters w.room.table) w.present w.wanted

-- how many parameters of chosen modules differ from the wanted
unfoldable pub differing : (selection : List ℕ) → List Parameter → (present wanted : List ℤ) → ℕ
differing selection [] vs ws = 0
differing selection (p ∷ ps) [] ws = 0
differing selection (p ∷ ps) (v ∷ vs) [] = 0
differing selection (p ∷ ps) (v ∷ vs) (w ∷ ws) =
    cond (chosen selection p && not (equal v w)) (suc (differing selection ps vs ws)) (differing selection ps vs ws)
