-- The restore list: one set line for each parameter that differs, in value order, and what the two restore calls answer, that for its size and that which writes it.
pub mod Admitting
pub mod Laws
pub mod Numbers
pub mod Settable
pub mod Sizing
pub mod Telling
pub mod Wanted
use Rattle.std.specs.Prelude.{Bool, true, false, cond, ◌&&◌, ◌≡◌, List, [], ◌∷◌, ◌++◌, ℕ, zero, suc, leb, ℤ, length, Option, Some, None}
use Rattle.room.specs.declared.table.Module.{Module}
use Rattle.std.proofs.lemmas.List.Edits.{sets}
use Rattle.room.specs.Refusal.{first_refusal}
use Rattle.room.specs.Table.{sound, table_number}
use Rattle.room.specs.Label.{label, bearer}
use Rattle.values.specs.Parameters.{parameters}
use Rattle.values.specs.Room.{Room}
use Rattle.values.specs.Values.{values_number, values_sound, equal}
use Rattle.values.specs.declared.parameter.Parameter.{Parameter}
use Rattle.spelling.specs.Say.{say}
use Rattle.wish.specs.Target.{Wish, selection_right, wanted_right, target}

-- a wanted change: the parameter, and the values it is to be taken from and to
pub record Change : Type 0 where
  pub parameter : Parameter
  pub present : ℤ
  pub target : ℤ

-- each parameter that differs, in value order
unfoldable pub changes_of : List Parameter → (present target : List ℤ) → List Change
changes_of [] vs xs = []
changes_of (p ∷ ps) [] xs = []
changes_of (p ∷ ps) (v ∷ vs) [] = []
changes_of (p ∷ ps) (v ∷ vs) (x ∷ xs) =
    cond (equal v x) (changes_of ps vs xs) (record { parameter = p; present = v; target = x } ∷ changes_of ps vs xs)

-- the parameters whose target differs from the present value, in value order
unfoldable pub changes : Wish → List Change
changes w = changes_of (parameters w.room.table) w.present (target w)

-- one set line, with its 0D
unfoldable pub line_of : (table : List ℕ) → Change → List ℕ
line_of t c = say t c.parameter c.present c.target ++ 0x0D ∷ []

-- the lines, one behind the other
unfoldable pub listing : (table : List ℕ) → List Change → List ℕ
listing t [] = []
listing t (c ∷ cs) = line_of t c ++ listing t cs

-- exactly one module bears the label
unfoldable pub borne_once : Option Module → Bool
borne_once (Some m) = true
borne_once None = false

-- a line can set the parameter: its row is not read-only, and no other module bears its module's label
unfoldable pub reachable : (table : List ℕ) → Parameter → Bool
reachable t p = p.row.settable && borne_once (bearer t (label t p.owner))

-- no wanted change is beyond reach
unfoldable pub all_reachable : (table : List ℕ) → List Change → Bool
all_reachable t [] = true
all_reachable t (c ∷ cs) = reachable t c.parameter && all_reachable t cs

-- 5 the selection is wrong
unfoldable pub selection_number : (table selection : List ℕ) → ℕ
selection_number t selection = cond (selection_right t selection) 0 5

-- 6 the wanted list is wrong
unfoldable pub wanted_number : Room → (selection : List ℕ) → (wanted : List ℤ) → ℕ
wanted_number r selection ws = cond (wanted_right r selection ws) 0 6

-- 7 a wanted change is beyond reach
unfoldable pub reach_number : (table : List ℕ) → List Change → ℕ
reach_number t cs = cond (all_reachable t cs) 0 7

-- 8 the list is longer than its buffer
unfoldable pub space_number : (table : List ℕ) → (room : ℕ) → List Change → ℕ
space_number t room cs = cond (leb (length (listing t cs)) room) 0 8

-- what is tested before the list: 1 the table is not sound, 2 the values are wrong, then 5 and 6
abbrev pub tests : Wish → List ℕ
tests w =
    table_number w.room.table ∷ values_number w.room w.present ∷ selection_number w.room.table w.selection ∷
    wanted_number w.room w.selection w.wanted ∷ []

-- what is tested of the list: 7, then 8
abbrev pub list_tests : (table : List ℕ) → (room : ℕ) → List Change → List ℕ
list_tests t room cs = reach_number t cs ∷ space_number t room cs ∷ []

-- the first of each that applies, 0 where none does
unfoldable pub test_number : Wish → ℕ
test_number w = first_refusal (tests w)

unfoldable pub list_number : (table : List ℕ) → (room : ℕ) → List Change → ℕ
list_number t room cs = first_refusal (list_tests t room cs)

-- the first that applies in the writing call's order, 0 where none does: 1, 2, 5 and 6, which are tested before the list, then 7 and 8
unfoldable pub restore_number : Wish → (room : ℕ) → ℕ
restore_number w room = first_refusal (tests w ++ list_tests w.room.table room (changes w))

-- the same without a buffer: 1, 2, 5 and 6, then 7
unfoldable pub size_number : Wish → ℕ
size_number w = first_refusal (tests w ++ reach_number w.room.table (changes w) ∷ [])

-- 1, 2, 5 and 6 do not apply
pub record Admitted (w : Wish) : Type 0 where
  pub table : sound w.room.table ≡ true
  pub present : values_sound w.room w.present ≡ true
  pub selection : selection_right w.room.table w.selection ≡ true
  pub wanted : wanted_right w.room w.selection w.wanted ≡ true

-- what the size call tells
pub record Size : Type 0 where
  pub number : ℕ
  pub bytes : ℕ
  pub lines : ℕ

-- the list's bytes and its lines; a refusal counts zero
unfoldable pub size_of : (table : List ℕ) → (number : ℕ) → List Change → Size
size_of t zero cs = record { number = 0; bytes = length (listing t cs); lines = length cs }
size_of t (suc n) cs = record { number = suc n; bytes = 0; lines = 0 }

-- the whole size call
unfoldable pub size : Wish → Size
size w = size_of w.room.table (size_number w) (changes w)

-- what the writing call tells, and what it leaves in the list buffer
pub record Told : Type 0 where
  pub number : ℕ
  pub bytes : ℕ
  pub lines : ℕ
  pub buffer : List ℕ

-- the list stands first in its buffer, and what is behind it stays; a refusal counts zero and changes nothing
unfoldable pub tell : (table : List ℕ) → (number : ℕ) → (buffer : List ℕ) → List Change → Told
tell t zero buffer cs =
    record { number = 0; bytes = length (listing t cs); lines = length cs; buffer = sets buffer 0 (listing t cs) }
tell t (suc n) buffer cs = record { number = suc n; bytes = 0; lines = 0; buffer = buffer }

-- the whole writing call
unfoldable pub restore : Wish → (buffer : List ℕ) → Told
restore w buffer = tell w.room.table (restore_number w (length buffer)) buffer (changes w)
