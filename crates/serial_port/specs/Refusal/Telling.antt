-- A rule for the code that tells the number, and what the number 0 tells.
use Rattle.std.specs.Prelude.{◌≡◌, true, List, [], ◌∷◌, ℕ, ◌≤◌, ℤ}
use Rattle.std.proofs.Common.{sym, ◌∙◌}
use Rattle.room.specs.Refusal.{first_refusal}
use Rattle.room.specs.Refusal.Laws.{all_passed, refusing}
use Rattle.room.specs.Table.{sound, table_number}
use Rattle.room.specs.Table.Number.{passed_table, table_held}
use Rattle.values.specs.Room.{Room, room_of}
use Rattle.values.specs.Values.{values_number, values_sound}
use Rattle.values.specs.Values.Number.{passed_values}
use Rattle.syntax.specs.Shape.{line_limit}
use Rattle.serial_port.specs.Refusal.{call_number, claim_number, reply_limit, reply_number}
use Rattle.serial_port.specs.Refusal.Number.{passed_claim, passed_reply}

-- ---- the number

pub tells-call : (r : Room) (vs : List ℤ) (reply_room claimed n : ℕ)
    → n ≡ first_refusal (table_number r.table ∷ values_number r vs ∷ reply_number 64 reply_room ∷ claim_number claimed ∷ []) → n ≡ call_number r vs reply_room claimed
unfolding call_number reply_limit
tells-call r vs reply_room claimed n e = e

pub ruleset telling = (table_held, tells-call, refusing)

-- ---- what the number 0 tells

abbrev Accepts : Room → List ℤ → ℕ → ℕ → Type 0
Accepts r vs reply_room claimed = (sound r.table ≡ true) × (values_sound r vs ≡ true) × (64 ≤ reply_room) × (claimed ≤ 64)

accepts : (r : Room) (vs : List ℤ) (reply_room claimed : ℕ) → call_number r vs reply_room claimed ≡ 0 → Accepts r vs reply_room claimed
unfolding call_number reply_limit line_limit
accepts r vs reply_room claimed e =
    let a = all_passed _ _ e in
    let b = all_passed _ _ a.1 in
    let c = all_passed _ _ b.1 in
    let d = all_passed _ _ c.1 in
    (passed_table r.table a.0, passed_values r vs b.0, passed_reply 64 reply_room c.0, passed_claim claimed d.0)

module _ (r : Room) (vs : List ℤ) (reply_room claimed n : ℕ) (e : n ≡ call_number r vs reply_room claimed) (z : n ≡ 0) where
  pub none_values : values_sound r vs ≡ true
  none_values = (accepts r vs reply_room claimed (sym e ∙ z)).1

  pub none_buffer : 64 ≤ reply_room
  none_buffer = (accepts r vs reply_room claimed (sym e ∙ z)).2

  pub none_claim : claimed ≤ 64
  none_claim = (accepts r vs reply_room claimed (sym e ∙ z)).3

-- the table's own, of a room of lent lists
pub none_table : (t : List ℕ) (vs : List ℤ) (reply_room claimed n : ℕ) → n ≡ call_number (room_of t) vs reply_room claimed → n ≡ 0 → sound t ≡ true
none_table t vs reply_room claimed n e z = (accepts (room_of t) vs reply_room claimed (sym e ∙ z)).0

pub ruleset none_told = (none_table, none_values, none_buffer, none_claim)
