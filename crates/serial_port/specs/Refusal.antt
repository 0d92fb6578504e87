-- The refusals of a port call, in the order in which it tests.
pub mod Laws
pub mod Number
pub mod Telling
use Rattle.std.specs.Prelude.{cond, List, [], ◌∷◌, ℕ, leb, ℤ}
use Rattle.room.specs.Refusal.{first_refusal}
use Rattle.room.specs.Table.{table_number}
use Rattle.values.specs.Room.{Room}
use Rattle.values.specs.Values.{values_number}
use Rattle.syntax.specs.Shape.{line_limit}

-- how many bytes a reply buffer must have
unfoldable pub reply_limit : ℕ
reply_limit = 64

-- 3 the reply buffer has fewer bytes than the least that it must have
unfoldable pub reply_number : (least reply_room : ℕ) → ℕ
reply_number least reply_room = cond (leb least reply_room) 0 3

-- 4 the port claims more than 64 bytes, overrun or not
unfoldable pub claim_number : (claimed : ℕ) → ℕ
claim_number claimed = cond (leb claimed line_limit) 0 4

-- the first that applies in the call's order, 0 where none does: 1 the table is not sound, 2 the values are wrong, then 3 and 4
unfoldable pub call_number : Room → List ℤ → (reply_room claimed : ℕ) → ℕ
call_number r vs reply_room claimed =
    first_refusal (table_number r.table ∷ values_number r vs ∷ reply_number reply_limit reply_room ∷ claim_number claimed ∷ [])
