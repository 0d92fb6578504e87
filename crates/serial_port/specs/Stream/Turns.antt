-- Rules for the code that serves a stream: what holds from call to call.
use Rattle.std.specs.Prelude.{◌≡◌, refl, true, List, ℕ, ◌+◌, ◌-◌, ◌≤◌, ◌<◌, ℤ, take, drop}
use Rattle.std.proofs.Math.Path.{sym}
use Rattle.std.proofs.Common.{ap, ◌∙◌, zero-add, add_assoc, arith, drop-drop, Fits}
use Rattle.std.proofs.Math.Nat.{sub-zero}
use borrow.Author.Rules.{part_to_end}
use borrow.Rule.Slice.PartMut.{put_mid}
use Rattle.std.proofs.Math.ListN.{length, length-drop}
use Rattle.std.specs.Int.{w64}
use Rattle.text.specs.Written.{Wrote}
use Rattle.text.specs.Written.Laws.{wrote_nothing, wrote_join, wrote_length, lent_wrote, past_by}
use Rattle.room.specs.Table.{sound}
use Rattle.values.specs.Room.{Room}
use Rattle.values.specs.Values.{values_sound}
use Rattle.syntax.specs.Shape.{line_limit}
use Rattle.serial_port.specs.Server.{control_space}
use Rattle.serial_port.specs.Port.{view}
use Rattle.serial_port.specs.Port.Laws.{claim-view}
use Rattle.serial_port.specs.Call.{step, Answers}
use Rattle.serial_port.specs.Call.Accepted.{Accepted, answer-accept, consumed_most, consumed_some, step_fits}
use Rattle.serial_port.specs.Refusal.{reply_limit}
use Rattle.serial_port.specs.Play.{ended}
use Rattle.serial_port.specs.Play.Feed.{followed}
use Rattle.serial_port.specs.Stream.{joined, flow, consumes, Serves}
use Rattle.serial_port.specs.Stream.Calls.{Once, feed-once, joined-append}
use Rattle.serial_port.specs.Stream.Consuming.{none_left, no_room, one_more}
use Rattle.serial_port.specs.Stream.Flow.{flow-nothing, flow-more}
use Rattle.serial_port.specs.Stream.Kept.{step_right}
use Rattle.serial_port.specs.declared.port.Port.{Port}
use Rattle.serial_port.specs.declared.port.Called.{Called}
use Rattle.values.specs.Values.Laws.{values_many}

-- ---- from call to call

-- the first `at` bytes of bs were served, and their replies are the first n bytes of `out`
pub record Serving (r : Room) (vs : List ℤ) (p : Port) (bs out : List ℕ) (vs' : List ℤ) (q : Port) (at n : ℕ) (out' : List ℕ) : Type 0 where
  pub sounds : sound r.table ≡ true
  pub given_fits : length bs < 18446744073709551616
  pub out_fits : length out < 18446744073709551616
  pub right : values_sound r vs' ≡ true
  pub size : length vs' ≡ length vs
  pub few : q.len ≤ 64
  pub within : at ≤ length bs
  pub room : n ≤ length out
  pub long : length out' ≡ length out
  pub replies : Wrote out 0 (joined (flow r vs p (take at bs)).replies) n out'
  pub values : vs' ≡ (flow r vs p (take at bs)).state
  pub seen : view q ≡ (flow r vs p (take at bs)).port
  pub rest : consumes (length bs) r vs (view p) bs (length out) ≡ at + consumes (length bs - at) r vs' (view q) (drop at bs) (length out - n)

module _ (r : Room) (vs : List ℤ) (p : Port) (bs out : List ℕ) where
  pub serving_start : sound r.table ≡ true → values_sound r vs ≡ true → p.len ≤ 64 → length bs < 18446744073709551616 → length out < 18446744073709551616
      → Serving r vs p bs out vs p 0 0 out
  serving_start s g k gf of =
      let e = flow-nothing r vs p in
      record {
        sounds = s;
        given_fits = gf;
        out_fits = of;
        right = g;
        size = refl;
        few = k;
        within = omega arith;
        room = omega arith;
        long = refl;
        replies = rw e (unfold ended joined in wrote_nothing out 0);
        values = rw e (unfold ended in refl);
        seen = rw e (unfold ended in refl);
        rest = rw (sub-zero (length bs), sub-zero (length out)) (sym (zero-add (consumes (length bs) r vs (view p) bs (length out))));
      }

  module _ (vs' : List ℤ) (q : Port) (at n : ℕ) (out' : List ℕ) (h : Serving r vs p bs out vs' q at n out') where
    pub serving_within : n ≤ length out'
    serving_within = omega (arith, h.room, h.long)

    -- ---- one more call
    module _ (c : Called) (vs'' : List ℤ) (part : List ℕ) (left : 64 ≤ length out' - n)
        (a : Answers r vs' q (take (length bs - at) (drop at bs)) (take (length out' - n) (drop n out')) c vs'' part) where
      done : Accepted (control_space r) vs' q (drop at bs) (take (length out' - n) (drop n out')) c vs'' part
      unfolding line_limit reply_limit
      done =
          let enough : 64 ≤ length (take (length out' - n) (drop n out')) = rw (part_to_end out' n, length-drop n out') left in
          answer-accept r vs' q (drop at bs) (take (length out' - n) (drop n out')) c vs'' part h.sounds h.right enough h.few (rw (part_to_end bs at) at a)

      wrote : Wrote out' n (step (control_space r) vs' (view q) (drop at bs)).reply (n + c.sent) (put_mid n (length out' - n) out' part)
      wrote =
          let fits = step_fits r vs' (view q) (drop at bs) h.sounds h.right in
          lent_wrote out' part n c.sent (step (control_space r) vs' (view q) (drop at bs)).reply (omega (arith, serving_within)) done.reply

      -- the call, fed byte by byte to what the calls before left
      fed : Once (flow r vs' q (take c.consumed (drop at bs))) (step (control_space r) vs' (view q) (drop at bs))
      unfolding flow line_limit
      fed = rw done.consumed (feed-once (control_space r) (view q) vs' (drop at bs) (claim-view q h.few))

      right_after : values_sound r vs'' ≡ true
      right_after = rw done.state (step_right r vs' h.sounds h.right (view q) (drop at bs))

      most : c.consumed ≤ length bs - at
      most = rw (done.consumed, ← (length-drop at bs)) (consumed_most (control_space r) (view q) vs' (drop at bs))

      pub serving_less : at < length bs → length bs - (at + c.consumed) < length bs - at
      serving_less l =
          let some : 1 ≤ c.consumed = rw done.consumed (consumed_some (control_space r) (view q) vs' (drop at bs) (rw (length-drop at bs) (omega arith))) in
          omega (arith, most)

      rest-next : at < length bs
          → consumes (length bs) r vs (view p) bs (length out)
          ≡ at + c.consumed + consumes (length bs - (at + c.consumed)) r vs'' (view c.port) (drop (at + c.consumed) bs) (length out - (n + c.sent))
      rest-next l =
          let v = view q in
          let long = length-drop at bs in
          let m = one_more r vs' v (drop at bs) (length out - n) (rw long (omega arith)) (omega (arith, h.long)) in
          let told : c.sent ≡ length (step (control_space r) vs' v (drop at bs)).reply = past_by done.reply ∙ zero-add (length (step (control_space r) vs' v (drop at bs)).reply) in
          let fuel : length bs - (at + c.consumed) ≡ length bs - at - c.consumed = omega arith in
          let left : length out - (n + c.sent) ≡ length out - n - c.sent = omega arith in
          let whole = h.rest ∙ ap (λ (k : ℕ). at + k) (rw long at m) in
          rw (fuel, left, ← (drop-drop c.consumed at bs), told, done.consumed, done.state, done.seen, add_assoc at (step (control_space r) vs' v (drop at bs)).consumed) whole

      pub serving_next : at < length bs → Serving r vs p bs out vs'' c.port (at + c.consumed) (n + c.sent) (put_mid n (length out' - n) out' part)
      unfolding followed line_limit
      serving_next l =
          let f = flow-more r vs p bs at vs' q h.values h.seen c.consumed in
          let w = wrote_join h.replies wrote in
          let fits = step_fits r vs' (view q) (drop at bs) h.sounds h.right in
          let r-past = past_by done.reply in
          record {
            sounds = h.sounds;
            given_fits = h.given_fits;
            out_fits = h.out_fits;
            right = right_after;
            size = values_many r vs'' right_after ∙ sym (values_many r vs' h.right) ∙ h.size;
            few = done.few;
            within = omega (arith, most);
            room = omega (arith, serving_within, h.long);
            long = wrote_length wrote ∙ h.long;
            replies = rw (f, joined-append, fed.replies) w;
            values = rw f (done.state ∙ sym fed.state);
            seen = rw f (done.seen ∙ sym fed.port);
            rest = rest-next l;
          }

      pub serving_at : Fits w64 (at + c.consumed)
      serving_at = record { fits = omega (arith, most, h.within, h.given_fits) }

      pub serving_end : Fits w64 (n + c.sent)
      serving_end =
          let fits = step_fits r vs' (view q) (drop at bs) h.sounds h.right in
          let r-past = past_by done.reply in
          record { fits = omega (arith, serving_within, h.long, h.out_fits) }

    -- ---- the end
    nothing_after : length bs ≤ at → at ≡ consumes (length bs) r vs (view p) bs (length out)
    nothing_after l =
        let z = none_left r (length bs - at) vs' (view q) (drop at bs) (length out - n) (rw (length-drop at bs) (omega arith)) in
        sym (h.rest ∙ rw z (omega arith))

    nothing_fits : length out' - n < 64 → at ≡ consumes (length bs) r vs (view p) bs (length out)
    nothing_fits l =
        let z = no_room r (length bs - at) vs' (view q) (drop at bs) (length out - n) (omega (arith, h.long)) in
        sym (h.rest ∙ rw z (omega arith))

    pub served-all : length bs ≤ at → Serves r vs p bs out (record { port = q; consumed = at; sent = n }) vs' out'
    unfolding line_limit
    served-all l =
        record { within = h.within; room = h.room; replies = h.replies; values = h.values; seen = h.seen; few = h.few; consumed = nothing_after l }

    pub served-full : length out' - n < 64 → Serves r vs p bs out (record { port = q; consumed = at; sent = n }) vs' out'
    unfolding line_limit reply_limit
    served-full l =
        record { within = h.within; room = h.room; replies = h.replies; values = h.values; seen = h.seen; few = h.few; consumed = nothing_fits l }

pub ruleset serving = (serving_start, serving_within, served-all, served-full)
