-- When each number is told: one law for each.
use Rattle.std.specs.Prelude.{◌≡◌, refl, true, false, List, ℕ, ◌≤◌, ◌<◌, ℤ}
use Rattle.std.proofs.Common.{◌∙◌}
use Rattle.room.specs.Refusal.Laws.{all, passes, stops, first_by, first-passed, first-last}
use Rattle.room.specs.Table.{sound}
use Rattle.room.specs.Table.Number.{table_passed, table_refused}
use Rattle.values.specs.Room.{Room}
use Rattle.values.specs.Values.{values_sound}
use Rattle.values.specs.Values.Number.{values_passed, values_refused}
use Rattle.syntax.specs.Shape.{line_limit}
use Rattle.serial_port.specs.Refusal.{call_number, claim_number, reply_limit}
use Rattle.serial_port.specs.Refusal.Number.{claim-passed, claim-refused, reply_passed, reply_refused}

pub number-table : (r : Room) (vs : List ℤ) (reply_room claimed : ℕ) → sound r.table ≡ false → call_number r vs reply_room claimed ≡ 1
unfolding call_number
number-table r vs reply_room claimed s = first_by (stops (table_refused r.table s))

pub number-values : (r : Room) (vs : List ℤ) (reply_room claimed : ℕ) → sound r.table ≡ true → values_sound r vs ≡ false
    → call_number r vs reply_room claimed ≡ 2
unfolding call_number
number-values r vs reply_room claimed s g = first_by (passes (table_passed r.table s) (stops (values_refused r vs g)))

pub number-buffer : (r : Room) (vs : List ℤ) (reply_room claimed : ℕ) → sound r.table ≡ true → values_sound r vs ≡ true → reply_room < reply_limit
    → call_number r vs reply_room claimed ≡ 3
unfolding call_number
number-buffer r vs reply_room claimed s g h =
    first_by (passes (table_passed r.table s) (passes (values_passed r vs g) (stops (reply_refused reply_limit reply_room h))))

pub number-claim : (r : Room) (vs : List ℤ) (reply_room claimed : ℕ) → sound r.table ≡ true → values_sound r vs ≡ true → reply_limit ≤ reply_room
    → line_limit < claimed → call_number r vs reply_room claimed ≡ 4
unfolding call_number
number-claim r vs reply_room claimed s g h k =
    first_by (passes (table_passed r.table s) (passes (values_passed r vs g) (passes (reply_passed reply_limit reply_room h) (stops (claim-refused claimed k)))))

-- when no refusal applies
pub accepted : (r : Room) (vs : List ℤ) (reply_room claimed : ℕ) → sound r.table ≡ true → values_sound r vs ≡ true
    → reply_limit ≤ reply_room → claimed ≤ line_limit → call_number r vs reply_room claimed ≡ 0
unfolding call_number
accepted r vs reply_room claimed s p h k =
    first_by (passes (table_passed r.table s) (passes (values_passed r vs p) (passes (reply_passed reply_limit reply_room h) (passes (claim-passed claimed k) all))))

-- where the other tests are passed, the port's claim decides
pub number-tested : (r : Room) (vs : List ℤ) (reply_room claimed : ℕ) → sound r.table ≡ true → values_sound r vs ≡ true → reply_limit ≤ reply_room
    → call_number r vs reply_room claimed ≡ claim_number claimed
unfolding call_number
number-tested r vs reply_room claimed s g h =
    first-passed _ _ (table_passed r.table s) ∙ first-passed _ _ (values_passed r vs g) ∙ first-passed _ _ (reply_passed reply_limit reply_room h)
    ∙ first-last (claim_number claimed)

-- of a port's claim, only whether it is over 64 counts: a port and its view are refused alike
pub refused-alike : (r : Room) (vs : List ℤ) (reply_room claimed other : ℕ) → claimed ≤ line_limit → other ≤ line_limit
    → call_number r vs reply_room claimed ≡ call_number r vs reply_room other
unfolding call_number
refused-alike r vs reply_room claimed other h k = rw (claim-passed claimed h, claim-passed other k) refl
