-- A restore call, compared with what it must tell.
pub mod Telling
use Rattle.std.specs.Prelude.{◌≡◌, Bool, ◌&&◌, List, ℕ, eqb, length, take}
use Rattle.room.specs.Label.{same}
use Rattle.restore.specs.Restored.{Restored}
use Rattle.wish.specs.Listing.{Told, restore}
use Rattle.wish.specs.Target.{Wish}

-- a call tells this number, and this list with so many lines
unfoldable pub list_right : Told → (number lines : ℕ) → (list : List ℕ) → Bool
list_right a number lines list =
    eqb a.number number && eqb a.lines lines && eqb a.bytes (length list) && same (take a.bytes a.buffer) list

-- what the answer r tells, with the list buffer as it is afterwards
unfoldable pub told : Restored → (buffer : List ℕ) → Told
told r buffer = record { number = r.number; bytes = r.bytes; lines = r.lines; buffer = buffer }

-- the promise of the comparison: whether the restore call tells so, and the buffer as that call leaves it
pub data Compares (w : Wish) (buffer : List ℕ) (number lines : ℕ) (list : List ℕ) (r : Bool) (buffer' : List ℕ) : Type 0 where
  compares : (right : r ≡ list_right (restore w buffer) number lines list) → (left : buffer' ≡ (restore w buffer).buffer) → Compares w buffer number lines list r buffer'
