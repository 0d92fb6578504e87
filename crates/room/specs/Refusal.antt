-- The number of each refusal, and which number a call is refused with, of those of its tests.
pub mod Laws
use Rattle.std.specs.Prelude.{List, [], ◌∷◌, ℕ, zero, suc, Result, Ok, Err}
use Rattle.room.specs.declared.refusal.Refusal.{Refusal}
use Rattle.room.specs.declared.refusal.Refusal.TheVariants.{Table, Values, ReplyBuffer, HeldBytes, Selection, Wanted, OutOfReach, NoRoom, NoSuchChange, Connections}

-- the number of each refusal
abbrev pub refusal_number : Refusal → ℕ
refusal_number Table = 1
refusal_number Values = 2
refusal_number ReplyBuffer = 3
refusal_number HeldBytes = 4
refusal_number Selection = 5
refusal_number Wanted = 6
refusal_number OutOfReach = 7
refusal_number NoRoom = 8
refusal_number NoSuchChange = 9
refusal_number Connections = 10

-- the number of a result: 0 where it is not refused, and else its refusal's
abbrev pub number_of : {A : Type 0} → Result A Refusal → ℕ
number_of (Ok x) = 0
number_of (Err e) = refusal_number e

-- the first number of a list that is not 0, in the order in which a call tests; 0 where none applies
unfoldable pub first_refusal : List ℕ → ℕ
first_refusal [] = 0
first_refusal (zero ∷ ns) = first_refusal ns
first_refusal (suc n ∷ ns) = suc n
