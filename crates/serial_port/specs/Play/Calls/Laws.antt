-- Calls that were made do what `play` says; and whoever keeps the promise can play any bytes.
use Rattle.std.specs.Prelude.{◌≡◌, Bool, ℤ, drop}
use Rattle.std.proofs.Math.Path.{refl, ap}
use Rattle.std.proofs.Common.{sym, ◌∙◌, arith, length-drop}
use Rattle.std.proofs.Math.Bool.{true, false}
use mathlib.Core.List.{List, [], ◌∷◌}
use Prim.Native.Nat.{ℕ, zero, suc, ◌≤◌}
use Rattle.std.proofs.Math.Nat.{zero-add}
use borrow.Author.Tests.{eq-eqb, ne_eqb}
use Rattle.std.proofs.Math.Dec.{eqb}
use Rattle.std.proofs.Math.ListN.{length, take}
use Rattle.std.proofs.Math.Seq.{drop-length}
use Rattle.text.specs.Cut.{has, index_of, before, after}
use Rattle.text.specs.Cut.Found.{after-drop}
use Rattle.text.specs.Written.Laws.{past_by, bytes-by}
use Rattle.room.specs.Table.{sound}
use Rattle.values.specs.Room.{Room}
use Rattle.syntax.specs.Shape.{line_limit}
use Rattle.serial_port.specs.Server.{control_space}
use Rattle.serial_port.specs.Port.{view, fresh, join}
use Rattle.serial_port.specs.Port.Laws.{claim-view}
use Rattle.serial_port.specs.Call.{finish, replied, waiting, Answers}
use Rattle.serial_port.specs.Refusal.{reply_limit}
use Rattle.serial_port.specs.Call.Accepted.{Accepted, answer-accept, consumed_some}
use Rattle.serial_port.specs.Call.Laws.{step-finishes, step_waits, written_first, reply_fits, reply_sent}
use Rattle.serial_port.specs.Play.{Played, ended, reply_first, play, feed}
use Rattle.serial_port.specs.Play.Calls.{AsFresh, Made, Plays, last_port, last_values, replies}
use Rattle.serial_port.specs.Play.Feed.{finished, feed-nothing, feed-waits, feed-finishes}
use Rattle.serial_port.specs.Play.Kept.{step_keeps}
use Rattle.serial_port.specs.Play.Laws.{Right, keeps_right, plays}
use Rattle.serial_port.specs.declared.port.Port.{Port}

-- what `Port::fresh` hands out counts as fresh
pub fresh-counts : (p : Port) → view p ≡ fresh → p.len ≡ 0 → AsFresh p
fresh-counts p seen none = record { seen = seen; few = omega arith }

-- the calls cs, from port p and values vs on, did what the play says; the port that they left claims at most 64 bytes
pub record Does (cs : List Made) (p : Port) (vs : List ℤ) (says : Played (List ℤ)) : Type 0 where
  pub replies : replies cs ≡ says.replies
  pub values : last_values cs vs ≡ says.state
  pub port : view (last_port cs p) ≡ says.port
  pub few : (last_port cs p).len ≤ line_limit

module _ (r : Room) (is-sound : sound r.table ≡ true) where
  -- one call, and those that follow on it
  module _ (c : Made) (cs : List Made) (p : Port) (vs : List ℤ) (bs : List ℕ)
      (k : p.len ≤ line_limit) (g : Right r vs) (n : reply_limit ≤ length c.buffer)
      (a : Accepted (control_space r) vs p bs c.buffer c.answer c.values c.after)
      (rest : Does cs c.answer.port c.values (feed (control_space r) (view c.answer.port) c.values (drop c.answer.consumed bs))) where
    -- it finishes a line
    finishes : has 0x0D bs ≡ true → Does (c ∷ cs) p vs (feed (control_space r) (view p) vs bs)
    unfolding last_port last_values replies reply_first replied finished
    finishes e =
        let v = join (view p) (before 0x0D bs) in
        let f = finish (control_space r) vs v in
        let s = step-finishes (control_space r) vs (view p) bs e in
        let seen : view c.answer.port ≡ fresh = a.seen ∙ ap (λ x. x.port) s in
        let consumed : c.answer.consumed ≡ suc (index_of 0x0D bs) = a.consumed ∙ ap (λ x. x.consumed) s in
        let values : c.values ≡ f.state = a.state ∙ ap (λ x. x.state) s in
        let w = rw s at a.reply in
        let long : c.answer.sent ≡ length f.reply = past_by w ∙ zero-add (length f.reply) in
        let reply : take c.answer.sent c.after ≡ f.reply =
        rw (long, bytes-by w) (written_first c.buffer f.reply (omega (arith, reply_fits r vs v is-sound g))) in
        let sent : eqb c.answer.sent 0 ≡ false = ne_eqb c.answer.sent 0 (λ z. omega (arith, reply_sent r vs v is-sound g)) in
        let next : feed (control_space r) fresh f.state (after 0x0D bs)
        ≡ feed (control_space r) (view c.answer.port) c.values (drop c.answer.consumed bs) =
        rw (seen, values, consumed, after-drop 0x0D bs) refl in
        rw (feed-finishes (control_space r) (view p) vs bs (claim-view p k) e ∙ ap (reply_first f.reply) next)
        (record { replies = rw (sent, reply) (ap (λ l. f.reply ∷ l) rest.replies); values = rest.values; port = rest.port; few = rest.few })

    -- it finishes none
    waits : has 0x0D bs ≡ false → Does (c ∷ cs) p vs (feed (control_space r) (view p) vs bs)
    unfolding last_port last_values replies waiting
    waits e =
        let s = step_waits (control_space r) vs (view p) bs e in
        let seen : view c.answer.port ≡ join (view p) bs = a.seen ∙ ap (λ x. x.port) s in
        let consumed : c.answer.consumed ≡ length bs = a.consumed ∙ ap (λ x. x.consumed) s in
        let values : c.values ≡ vs = a.state ∙ ap (λ x. x.state) s in
        let w = rw s at a.reply in
        let sent : eqb c.answer.sent 0 ≡ true = eq-eqb c.answer.sent 0 (past_by w) in
        let next : ended (join (view p) bs) vs ≡ feed (control_space r) (view c.answer.port) c.values (drop c.answer.consumed bs) =
        rw (seen, values, consumed, drop-length bs) (sym (feed-nothing (control_space r) (join (view p) bs) vs)) in
        rw (feed-waits (control_space r) (view p) vs bs (claim-view p k) e ∙ next)
        (record { replies = rw sent rest.replies; values = rest.values; port = rest.port; few = rest.few })

  accepted : (c : Made) (p : Port) (vs : List ℤ) (bs : List ℕ) → p.len ≤ line_limit → Right r vs → reply_limit ≤ length c.buffer
      → Answers r vs p bs c.buffer c.answer c.values c.after → Accepted (control_space r) vs p bs c.buffer c.answer c.values c.after
  accepted c p vs bs k g n a = answer-accept r vs p bs c.buffer c.answer c.values c.after is-sound g n k a

  stays_right : (c : Made) (p : Port) (vs : List ℤ) (bs : List ℕ) → Right r vs
      → Accepted (control_space r) vs p bs c.buffer c.answer c.values c.after → Right r c.values
  stays_right c p vs bs g a = rw a.state (step_keeps (control_space r) (Right r) (keeps_right r is-sound) (view p) vs bs g)

  -- such calls do what feeding byte by byte does
  calls_feed : (cs : List Made) (p : Port) (vs : List ℤ) (bs : List ℕ) → p.len ≤ line_limit → Right r vs → Plays r cs p vs bs
      → Does cs p vs (feed (control_space r) (view p) vs bs)
  unfolding last_port last_values replies ended
  calls_feed [] p vs bs k g h = rw (h, feed-nothing (control_space r) (view p) vs) (record { replies = refl; values = refl; port = refl; few = k })
  calls_feed (c ∷ cs) p vs bs k g h =
      go (has 0x0D bs) refl
      (calls_feed cs c.answer.port c.values (drop c.answer.consumed bs) made.few (stays_right c p vs bs g made) h.2)
    where
      made : Accepted (control_space r) vs p bs c.buffer c.answer c.values c.after
      made = accepted c p vs bs k g h.0 h.1

      go : (b : Bool) → has 0x0D bs ≡ b
          → Does cs c.answer.port c.values (feed (control_space r) (view c.answer.port) c.values (drop c.answer.consumed bs))
          → Does (c ∷ cs) p vs (feed (control_space r) (view p) vs bs)
      go true e rest = finishes c cs p vs bs k g h.0 made rest e
      go false e rest = waits c cs p vs bs k g h.0 made rest e

  -- from a fresh port they do what `play` says
  pub calls_play : (reply_rooms : ℕ → ℕ) → ((call : ℕ) → reply_limit ≤ reply_rooms call)
      → (cs : List Made) (p : Port) (vs : List ℤ) (bs : List ℕ) → AsFresh p → Right r vs → Plays r cs p vs bs
      → Does cs p vs (play r reply_rooms vs bs)
  calls_play reply_rooms enough cs p vs bs f g h =
      rw (plays r is-sound reply_rooms enough vs bs g, ← f.seen) (calls_feed cs p vs bs f.few g h)

  -- ---- calls can be made

  -- whoever keeps the promise, with 64 bytes or more for each reply, plays any bytes: each call consumes one or more
  module _ (make : Port → List ℤ → List ℕ → Made)
      (enough : (p : Port) (vs : List ℤ) (bs : List ℕ) → reply_limit ≤ length (make p vs bs).buffer)
      (promise : (p : Port) (vs : List ℤ) (bs : List ℕ)
      → Answers r vs p bs (make p vs bs).buffer (make p vs bs).answer (make p vs bs).values (make p vs bs).after) where
    ending : (most : ℕ) (p : Port) (vs : List ℤ) (bs : List ℕ) → length bs ≤ most → p.len ≤ line_limit → Right r vs
        → (cs : List Made) × Plays r cs p vs bs
    ending zero p vs [] l k g = ([], refl)
    ending zero p vs (b ∷ bs) l k g = absurd (omega arith)
    ending (suc most) p vs [] l k g = ([], refl)
    ending (suc most) p vs (b ∷ bs) l k g =
        let c = make p vs (b ∷ bs) in
        let a = accepted c p vs (b ∷ bs) k g (enough p vs (b ∷ bs)) (promise p vs (b ∷ bs)) in
        let some : 1 ≤ c.answer.consumed = rw a.consumed (consumed_some (control_space r) (view p) vs (b ∷ bs) (omega arith)) in
        let less : length (drop c.answer.consumed (b ∷ bs)) ≤ most = rw (length-drop c.answer.consumed (b ∷ bs)) (omega arith) in
        let rest = ending most c.answer.port c.values (drop c.answer.consumed (b ∷ bs)) less a.few (stays_right c p vs (b ∷ bs) g a) in
        (c ∷ rest.0, (enough p vs (b ∷ bs), promise p vs (b ∷ bs), rest.1))

    pub calls_end : (p : Port) (vs : List ℤ) (bs : List ℕ) → p.len ≤ line_limit → Right r vs → (cs : List Made) × Plays r cs p vs bs
    calls_end p vs bs k g = ending (length bs) p vs bs (omega arith) k g
