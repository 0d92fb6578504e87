-- Rules for the code that plays a line: a call of the port, and the reply that stands behind the line.
use Rattle.std.specs.Prelude.{◌≡◌, refl, Bool, true, List, ℕ, ◌+◌, ◌-◌, ◌≤◌, ◌<◌, ℤ, length, take, drop, replicate}
use Rattle.std.proofs.Common.{sym, ◌∙◌, zero-add, arith, length-drop, length-take-le, Fits}
use borrow.Author.Rules.{part_to_end}
use Rattle.std.proofs.lemmas.List.{length-replicate}
use Rattle.std.specs.Int.{w64}
use Rattle.text.specs.Written.Laws.{bytes-by, past_by, wrote_length}
use Rattle.room.specs.Label.{same}
use Rattle.room.specs.Table.{sound}
use Rattle.values.specs.Room.{Room}
use Rattle.values.specs.Values.{values_sound}
use Rattle.serial_port.specs.Server.{control_space}
use Rattle.serial_port.specs.Port.{view}
use Rattle.serial_port.specs.Call.{Answers, step}
use Rattle.serial_port.specs.Call.Laws.{written_first}
use Rattle.syntax.specs.Shape.{line_limit}
use Rattle.serial_port.specs.Refusal.{reply_limit}
use Rattle.serial_port.specs.Call.Accepted.{Accepted, answer-accept, consumed_most, step_fits}
use Rattle.serial_port.specs.declared.port.Called.{Called}
use Rattle.serial_port.specs.declared.port.Port.{Port}
use Rattle.worked.specs.Script.{Plays, plays, through, turn, turned}
use Rattle.worked.specs.Script.Cutting.{through-most}

module _ (r : Room) (vs : List ℤ) (p : Port) (script : List ℕ) (c : Called) (vs' : List ℤ) (reply : List ℕ) (s : sound r.table ≡ true)
    (g : values_sound r vs ≡ true) (k : p.len ≤ 64) (a : Answers r vs p script (replicate 64 0) c vs' reply) where
  room : length {A = ℕ} (replicate 64 0) ≡ 64
  room = length-replicate {A = ℕ} 64 0

  done : Accepted (control_space r) vs p script (replicate 64 0) c vs' reply
  unfolding line_limit reply_limit
  done = answer-accept r vs p script (replicate 64 0) c vs' reply s g (omega (arith, room)) k a

  pub line_most : c.consumed ≤ length script
  line_most = rw done.consumed (consumed_most (control_space r) (view p) vs script)

  sent_is : c.sent ≡ length (step (control_space r) vs (view p) script).reply
  sent_is = past_by done.reply ∙ zero-add (length (step (control_space r) vs (view p) script).reply)

  pub sent_most : c.sent ≤ length reply
  sent_most = omega (arith, room, sent_is, step_fits r vs (view p) script s g, wrote_length done.reply)

  pub sent_counts : c.sent ≡ length (take c.sent reply)
  sent_counts = sym (length-take-le c.sent reply sent_most)

  reply_is : take c.sent reply ≡ (step (control_space r) vs (view p) script).reply
  reply_is =
      let l = (step (control_space r) vs (view p) script).reply in
      rw (sent_is, bytes-by done.reply) (written_first (replicate 64 0) l (omega (arith, room, step_fits r vs (view p) script s g)))

  module _ (must : List ℕ) (e : must ≡ through (take (length script - c.consumed) (drop c.consumed script))) where
    must_is : must ≡ through (drop c.consumed script)
    must_is = rw (part_to_end script c.consumed) at e

    must_most : length must ≤ length script - c.consumed
    must_most = rw must_is (omega (arith, through-most (drop c.consumed script), length-drop c.consumed script))

    pub passed_fits : length script < 18446744073709551616 → Fits w64 (c.consumed + length must)
    passed_fits f = record { fits = omega (arith, must_most, line_most) }

    pub played : (b : Bool) → b ≡ same (take c.sent reply) must
        → Plays r vs p script (record { port = c.port; passed = c.consumed + length must; right = b }) vs'
    unfolding line_limit turn turned
    played b q =
        let told : b ≡ same (step (control_space r) vs (view p) script).reply (through (drop (step (control_space r) vs (view p) script).consumed script)) =
        rw (reply_is, must_is, done.consumed) at q in
        plays (rw (told, done.state, done.seen, must_is, done.consumed) refl) done.few

pub ruleset turning = (line_most, sent_most, sent_counts, passed_fits, played)
