-- Serving a stream whole: where there are 64 bytes of room for each byte given, all are consumed, since each call consumes one or more and
-- replies with at most 64 bytes.
use Rattle.std.specs.Prelude.{◌≡◌, true, ℤ, take, drop}
use Rattle.std.proofs.Math.Path.{refl}
use mathlib.Core.List.{List, [], ◌∷◌}
use Prim.Native.Nat.{ℕ, zero, suc, ◌*◌, ◌-◌, ◌≤◌}
use native.Mathlib.Omega.{arith}
use Rattle.std.proofs.Common.{le-ltb}
use Rattle.std.proofs.Math.ListN.{length, length-drop}
use Rattle.std.proofs.Math.Seq.{take-length}
use Rattle.text.specs.Written.{Wrote}
use Rattle.room.specs.Table.{sound}
use Rattle.values.specs.Room.{Room}
use Rattle.values.specs.Values.{values_sound}
use Rattle.syntax.specs.Shape.{line_limit}
use Rattle.serial_port.specs.Server.{control_space}
use Rattle.serial_port.specs.Port.{View, view}
use Rattle.serial_port.specs.Call.{step}
use Rattle.serial_port.specs.Refusal.{reply_limit}
use Rattle.serial_port.specs.Play.Laws.{Right}
use Rattle.serial_port.specs.Stream.{joined, flow, consumes, Serves}
use Rattle.serial_port.specs.Call.Accepted.{consumed_most, consumed_some, step_fits}
use Rattle.serial_port.specs.Stream.Kept.{step_right}
use Rattle.serial_port.specs.declared.port.Port.{Port}
use Rattle.serial_port.specs.declared.stream.Served.{Served}

module _ (r : Room) (is-sound : sound r.table ≡ true) where
  consumes_all : (calls : ℕ) (vs : List ℤ) (v : View) (bs : List ℕ) (room : ℕ) → length bs ≤ calls → Right r vs → 64 * length bs ≤ room
      → consumes calls r vs v bs room ≡ length bs
  unfolding consumes reply_limit
  consumes_all zero vs v bs room n g h = omega arith
  consumes_all (suc calls) vs v [] room n g h = refl
  consumes_all (suc calls) vs v (b ∷ bs) room n g h =
      let s = step (control_space r) vs v (b ∷ bs) in
      let most = consumed_most (control_space r) v vs (b ∷ bs) in
      let some = consumed_some (control_space r) v vs (b ∷ bs) (omega arith) in
      let few = step_fits r vs v (b ∷ bs) is-sound g in
      let left = length-drop s.consumed (b ∷ bs) in
      let right = step_right r vs is-sound g v (b ∷ bs) in
      let rest = consumes_all calls s.state s.port (drop s.consumed (b ∷ bs)) (room - length s.reply) (omega arith) right (omega arith) in
      rw (le-ltb room 64 (omega arith)) (omega arith)

  pub all_consumed : (vs : List ℤ) (v : View) (bs : List ℕ) (room : ℕ) → values_sound r vs ≡ true → 64 * length bs ≤ room
      → consumes (length bs) r vs v bs room ≡ length bs
  all_consumed vs v bs room g h = consumes_all (length bs) vs v bs room (omega arith) g h

-- so the replies, the values and the port are those of all bytes
module _ (r : Room) (vs : List ℤ) (p : Port) (bs out : List ℕ) (s : Served) (vs' : List ℤ) (out' : List ℕ) (is-sound : sound r.table ≡ true)
    (g : values_sound r vs ≡ true) (h : 64 * length bs ≤ length out) (a : Serves r vs p bs out s vs' out') where
  whole : take s.consumed bs ≡ bs
  whole = rw (a.consumed, all_consumed r is-sound vs (view p) bs (length out) g h) (take-length bs)

  pub whole-replies : Wrote out 0 (joined (flow r vs p bs).replies) s.sent out'
  whole-replies = rw whole at a.replies

  pub whole-values : vs' ≡ (flow r vs p bs).state
  whole-values = rw whole at a.values

  pub whole-seen : view s.port ≡ (flow r vs p bs).port
  whole-seen = rw whole at a.seen

  -- the next call may be given the port
  pub whole-few : s.port.len ≤ 64
  unfolding line_limit
  whole-few = a.few
