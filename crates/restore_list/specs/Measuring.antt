-- Measuring the restore list: its bytes and lines, or that a wanted change is beyond reach.
pub mod Label
pub mod Listed
pub mod OneModule
pub mod Part
pub mod RowWalk
pub mod Rows
pub mod Told
pub mod Walk
pub mod Whole
use Rattle.std.specs.Prelude.{◌≡◌, Bool, true, cond, List, [], ℕ, ◌+◌, ◌*◌, ◌≤◌, ◌<◌, eqb, leb, ℤ, length, get_or, take, drop}
use Rattle.catalogue.specs.Catalogue.{known_layout, row_limit, rows_of}
use Rattle.values.specs.Parameters.{parameters, parameters_of}
use Rattle.room.specs.Table.{modules, sound}
use Rattle.room.specs.declared.table.Module.{Module}
use Rattle.wish.specs.Listing.{Change, all_reachable, changes_of, list_number, listing}
use Rattle.wish.specs.Listing.Settable.{all_settable}
use Rattle.wish.specs.Listing.Wanted.{wanted_changes}
use Rattle.restore_list.specs.declared.module_measuring.Measured.{Measured}
use Rattle.restore_list.specs.declared.module_measuring.Measured.TheVariants.{Within, Beyond}

-- the wanted changes of a chosen module
unfoldable pub row_changes : Module → (present wanted : List ℤ) → List Change
row_changes m vs ws = changes_of (parameters_of m) vs ws

-- a module's own values
unfoldable pub values_of : Module → List ℤ → List ℤ
values_of m vs = take (length (rows_of m.layout)) (drop m.first vs)

-- the wanted changes of any module: none where it is not chosen
unfoldable pub module_changes : (selection : List ℕ) → Module → (present wanted : List ℤ) → List Change
module_changes selection m vs ws = cond (eqb (get_or selection m.number 0) 1) (row_changes m (values_of m vs) (values_of m ws)) []

-- the wanted changes of all modules, which the table alone decides
unfoldable pub all_changes : (table : List ℕ) → (present : List ℤ) → (selection : List ℕ) → (wanted : List ℤ) → List Change
all_changes t vs selection ws = wanted_changes selection (parameters t) vs ws

-- the table is sound, and the lists have an entry for each of its modules or parameters
pub record Matching (t : List ℕ) (present : List ℤ) (selection : List ℕ) (wanted : List ℤ) : Type 0 where
  pub sounds : sound t ≡ true
  pub present-long : length present ≡ length (parameters t)
  pub selection_long : length selection ≡ length (modules t)
  pub wanted_long : length wanted ≡ length (parameters t)

-- the module stands in the table, its byte in the selection and its values in the lists
pub record Standing (t : List ℕ) (present : List ℤ) (selection : List ℕ) (wanted : List ℤ) (m : Module) : Type 0 where
  pub sounds : sound t ≡ true
  pub known : known_layout m.layout ≡ true
  pub room : m.place + 33 ≤ length t
  pub byte : m.number < length selection
  pub values : m.first + length (rows_of m.layout) ≤ length present
  pub wishes : m.first + length (rows_of m.layout) ≤ length wanted

-- the bytes and lines of some changes, if they can be listed
unfoldable pub measured_if : Bool → (table : List ℕ) → List Change → Measured
measured_if listed t cs = cond listed (Within (length (listing t cs)) (length cs)) Beyond

unfoldable pub measured : (table : List ℕ) → List Change → Measured
measured t cs = measured_if (all_reachable t cs) t cs

-- the number of the restore call for what measuring answers, with so much room for the list: 7 beyond reach, 8 no room, 0 else
unfoldable pub measured_number : Measured → (room : ℕ) → ℕ
measured_number Beyond room = 7
measured_number (Within bytes lines) room = cond (leb bytes room) 0 8

-- the bytes and lines of a module are few
pub record Few (r : Measured) : Type 0 where
  pub bytes : (b l : ℕ) → r ≡ Within b l → b ≤ 128 * row_limit
  pub lines : (b l : ℕ) → r ≡ Within b l → l ≤ row_limit

-- what measuring a module's rows answers
pub record Settles (t : List ℕ) (cs : List Change) (r : Measured) : Type 0 where
  pub is : r ≡ measured_if (all_settable cs) t cs
  pub few : Few r

-- what measuring some changes answers: their bytes and lines, or that one is beyond reach; and with any room for the list, the number of
-- the case is the one that the restore call has for these changes
pub record Measures (t : List ℕ) (cs : List Change) (r : Measured) : Type 0 where
  pub is : r ≡ measured t cs
  pub numbers : (room : ℕ) → measured_number r room ≡ list_number t room cs

-- what measuring a module answers
pub record MeasuresModule (t : List ℕ) (cs : List Change) (r : Measured) : Type 0 where
  pub measures : Measures t cs r
  pub few : Few r
