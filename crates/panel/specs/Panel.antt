-- A change at a wall panel: one value is set without a line, and told as a get line would be answered where the module's label begins with `#`.
pub mod Asking
pub mod Calling
pub mod Changing
pub mod Exactly
pub mod Laws
use Rattle.std.specs.Prelude.{◌≡◌, Bool, cond, not, ◌&&◌, List, [], ◌∷◌, ℕ, zero, suc, eqb, ℤ, pos, length, get_or, set, Result, Option, Some, None}
use Rattle.std.specs.Result.{result_unwrap_or}
use Rattle.std.proofs.lemmas.List.Edits.{sets}
use Rattle.catalogue.specs.Row.{permitted}
use Rattle.catalogue.specs.declared.groups.Part.TheVariants.{Whole}
use Rattle.catalogue.specs.declared.row.Row.{Row}
use Rattle.room.specs.Label.{label}
use Rattle.room.specs.Refusal.{first_refusal, number_of}
use Rattle.room.specs.Table.{table_number}
use Rattle.room.specs.declared.refusal.Refusal.{Refusal}
use Rattle.room.specs.declared.table.Module.{Module}
use Rattle.values.specs.Parameters.{by_row, place}
use Rattle.values.specs.Room.{Room, row_in}
use Rattle.values.specs.Values.{equal, values_number}
use Rattle.values.specs.declared.parameter.Parameter.{Parameter}
use Rattle.spelling.specs.Reply.{get_reply}
use Rattle.serial_port.specs.Refusal.{reply_limit, reply_number}

-- 9 the row is read-only, or does not permit the value
unfoldable pub row_number : Row → ℤ → ℕ
row_number row x = cond (row.settable && permitted row x) 0 9

-- 9 no module has the number, it has no such row, or the row by which the room judges the value is read-only or does not permit it
unfoldable pub change_number : Room → Option Parameter → ℤ → ℕ
change_number r (Some p) x = row_number (row_in r p) x
change_number r None x = 9

-- the first that applies in the call's order, 0 where none does: 1 the table is not sound, 2 the values are wrong, 3 the reply buffer has under 64 bytes, then 9
unfoldable pub panel_number : Room → List ℤ → (reply_room owner row : ℕ) → ℤ → ℕ
panel_number r vs reply_room owner row x =
    first_refusal (table_number r.table ∷ values_number r vs ∷ reply_number reply_limit reply_room ∷ change_number r (by_row r.table owner row) x ∷ [])

-- a module whose changes are told: its label begins with `#`
unfoldable pub notified : List ℕ → Module → Bool
notified t m = eqb (get_or (label t m) 0 0) 0x23

-- what is told of the parameter p, changed from v to x: what a get line for the whole of it is answered, so a routing word by index 3. Nothing is told of a value that
-- did not change, or of a module whose label does not begin with `#`
unfoldable pub notice : List ℕ → Parameter → (v x : ℤ) → List ℕ
notice t p v x = cond (notified t p.owner && not (equal v x)) (get_reply t p Whole x) []

-- what the call tells, and what it leaves as the values and in the reply buffer
pub record Told : Type 0 where
  pub number : ℕ
  pub sent : ℕ
  pub values : List ℤ
  pub buffer : List ℕ

-- a refusal counts zero and changes nothing
unfoldable pub refused : (number : ℕ) → List ℤ → (buffer : List ℕ) → Told
refused number vs buffer = record { number = number; sent = 0; values = vs; buffer = buffer }

-- the value at p's place is set to x; the notice stands first in its buffer, and what is behind it stays
unfoldable pub changed : (table : List ℕ) → List ℤ → (buffer : List ℕ) → Parameter → ℤ → Told
changed t vs buffer p x =
    let told = notice t p (get_or vs (place p) (pos 0)) x in
    record { number = 0; sent = length told; values = set vs (place p) x; buffer = sets buffer 0 told }

-- by the number, and by the parameter, which is found where the number is 0
unfoldable pub tell : (table : List ℕ) → (number : ℕ) → List ℤ → (buffer : List ℕ) → Option Parameter → ℤ → Told
tell t zero vs buffer (Some p) x = changed t vs buffer p x
tell t zero vs buffer None x = refused 0 vs buffer
tell t (suc n) vs buffer f x = refused (suc n) vs buffer

-- the whole call: in the room r with the values vs, the row with the number `row` of the module with the number `owner`, both counted from 0, is changed to x
unfoldable pub panel : Room → List ℤ → (buffer : List ℕ) → (owner row : ℕ) → ℤ → Told
panel r vs buffer owner row x = tell r.table (panel_number r vs (length buffer) owner row x) vs buffer (by_row r.table owner row) x

-- an answer: how many bytes the notice has, and the number of a refusal or 0
pub record Changed : Type 0 where
  pub sent : ℕ
  pub number : ℕ

-- a result as an answer: a refusal counts zero
abbrev pub change_of : Result ℕ Refusal → Changed
change_of r = record { sent = result_unwrap_or r 0; number = number_of r }

-- what the answer c tells, with the values and the reply buffer as they are afterwards
unfoldable pub tells : Changed → List ℤ → (buffer : List ℕ) → Told
tells c vs buffer = record { number = c.number; sent = c.sent; values = vs; buffer = buffer }

-- the promise of the call
pub data Changes (r : Room) (vs : List ℤ) (buffer : List ℕ) (owner row : ℕ) (x : ℤ) (c : Changed) (vs' : List ℤ) (buffer' : List ℕ) : Type 0 where
  changes : (told : tells c vs' buffer' ≡ panel r vs buffer owner row x) → Changes r vs buffer owner row x c vs' buffer'
