-- How many bytes the calls of a stream consume: nothing without bytes or room, and else what the first call consumes and then the rest.
use Rattle.std.specs.Prelude.{◌≡◌, ltb, ℤ, drop}
use Rattle.std.proofs.Math.Path.{refl, ap}
use Rattle.std.proofs.Math.Bool.{cond}
use mathlib.Core.List.{List, [], ◌∷◌}
use Prim.Native.Nat.{ℕ, zero, suc, ◌+◌, ◌-◌, ◌≤◌, ◌<◌}
use Rattle.std.proofs.Common.{arith, lt-ltb, le-ltb}
use Rattle.std.proofs.Math.ListN.{length, length-drop}
use Rattle.values.specs.Room.{Room}
use Rattle.serial_port.specs.Server.{control_space}
use Rattle.serial_port.specs.Port.{View}
use Rattle.serial_port.specs.Call.{step}
use Rattle.serial_port.specs.Refusal.{reply_limit}
use Rattle.serial_port.specs.Stream.{consumes}
use Rattle.serial_port.specs.Call.Accepted.{consumed_some}

module _ (r : Room) where
  -- as many calls as there are bytes are enough
  enough : (m n : ℕ) (vs : List ℤ) (v : View) (bs : List ℕ) (room : ℕ) → length bs ≤ m → length bs ≤ n → consumes m r vs v bs room ≡ consumes n r vs v bs room
  unfolding consumes
  enough zero zero vs v bs room h k = refl
  enough zero (suc n) vs v [] room h k = refl
  enough zero (suc n) vs v (b ∷ bs) room h k = absurd (omega arith)
  enough (suc m) zero vs v [] room h k = refl
  enough (suc m) zero vs v (b ∷ bs) room h k = absurd (omega arith)
  enough (suc m) (suc n) vs v [] room h k = refl
  enough (suc m) (suc n) vs v (b ∷ bs) room h k =
      let s = step (control_space r) vs v (b ∷ bs) in
      let some = consumed_some (control_space r) v vs (b ∷ bs) (omega arith) in
      let left : length (drop s.consumed (b ∷ bs)) ≤ length bs = rw (length-drop s.consumed (b ∷ bs)) (omega arith) in
      ap (λ (k : ℕ). cond (ltb room reply_limit) 0 (s.consumed + k))
      (enough m n s.state s.port (drop s.consumed (b ∷ bs)) (room - length s.reply) (omega arith) (omega arith))

  pub none_left : (m : ℕ) (vs : List ℤ) (v : View) (bs : List ℕ) (room : ℕ) → length bs ≤ 0 → consumes m r vs v bs room ≡ 0
  unfolding consumes
  none_left zero vs v bs room h = refl
  none_left (suc m) vs v [] room h = refl
  none_left (suc m) vs v (b ∷ bs) room h = absurd (omega arith)

  pub no_room : (m : ℕ) (vs : List ℤ) (v : View) (bs : List ℕ) (room : ℕ) → room < 64 → consumes m r vs v bs room ≡ 0
  unfolding consumes reply_limit
  no_room zero vs v bs room h = refl
  no_room (suc m) vs v [] room h = refl
  no_room (suc m) vs v (b ∷ bs) room h = rw (lt-ltb room 64 h)

  -- one call, and then the rest
  pub one_more : (vs : List ℤ) (v : View) (bs : List ℕ) (room : ℕ) → 1 ≤ length bs → 64 ≤ room
      → consumes (length bs) r vs v bs room
      ≡ (step (control_space r) vs v bs).consumed + consumes (length bs - (step (control_space r) vs v bs).consumed) r (step (control_space r) vs v bs).state (step (control_space r) vs v bs).port
      (drop (step (control_space r) vs v bs).consumed bs) (room - length (step (control_space r) vs v bs).reply)
  unfolding consumes reply_limit
  one_more vs v [] room h k = absurd (omega arith)
  one_more vs v (b ∷ bs) room h k =
      let s = step (control_space r) vs v (b ∷ bs) in
      let some = consumed_some (control_space r) v vs (b ∷ bs) (omega arith) in
      let long = length-drop s.consumed (b ∷ bs) in
      rw (le-ltb room 64 k)
      (ap (λ (k : ℕ). s.consumed + k)
      (enough (length bs) (suc (length bs) - s.consumed) s.state s.port (drop s.consumed (b ∷ bs)) (room - length s.reply) (rw long (omega arith)) (rw long (omega arith))))
