-- A call that is accepted: what it leaves, by the step that it does.
use Rattle.std.specs.Prelude.{◌≡◌, Bool, List, ℕ, ◌≤◌, ℤ}
use Rattle.std.proofs.Math.Path.{refl}
use Rattle.std.proofs.Common.{sym, ◌∙◌, ap, zero-add, arith}
use Rattle.std.proofs.Math.Bool.{true, false}
use Rattle.std.proofs.Math.ListN.{length}
use Rattle.text.specs.Cut.{has, before}
use Rattle.text.specs.Cut.Found.{has_within}
use Rattle.text.specs.Written.{Wrote, wrote}
use Rattle.room.specs.Table.{sound}
use Rattle.values.specs.Room.{Room}
use Rattle.values.specs.Values.{values_sound}
use Rattle.syntax.specs.Shape.{line_limit}
use Rattle.serial_port.specs.Server.{Server, control_space}
use Rattle.serial_port.specs.Port.{View, view, claim, join}
use Rattle.serial_port.specs.Port.Laws.{fresh-few, claim-join}
use Rattle.serial_port.specs.Call.{step, replied, waiting, tell, tells, Takes, Answers}
use Rattle.serial_port.specs.Refusal.{reply_limit}
use Rattle.serial_port.specs.Call.Laws.{step-finishes, step_waits, reply_fits, told-by, handed_by}
use Rattle.serial_port.specs.Refusal.Laws.{accepted}
use Rattle.serial_port.specs.declared.port.Port.{Port}
use Rattle.serial_port.specs.declared.port.Called.{Called}

-- its reply in the reply buffer, the state, the port, and what it consumed
pub record Accepted {S : Type 0} (server : Server S) (s : S) (p : Port) (bs buffer : List ℕ) (c : Called) (s' : S) (buffer' : List ℕ) : Type 0 where
  pub reply : Wrote buffer 0 (step server s (view p) bs).reply c.sent buffer'
  pub state : s' ≡ (step server s (view p) bs).state
  pub seen : view c.port ≡ (step server s (view p) bs).port
  pub few : c.port.len ≤ line_limit
  pub consumed : c.consumed ≡ (step server s (view p) bs).consumed

-- a call with the number 0 is accepted
pub accept : {S : Type 0} (server : Server S) (s : S) (p : Port) (bs buffer : List ℕ) (c : Called) (s' : S) (buffer' : List ℕ)
    → Takes server 0 s p bs buffer c s' buffer' → Accepted server s p bs buffer c s' buffer'
unfolding tells tell
accept server s p bs buffer c s' buffer' a =
    let told = told-by a in
    record {
      reply = wrote (ap (λ x. x.sent) told ∙ sym (zero-add (length (step server s (view p) bs).reply))) (ap (λ x. x.buffer) told);
      state = ap (λ x. x.state) told;
      seen = (handed_by a).0;
      few = (handed_by a).1;
      consumed = ap (λ x. x.consumed) told;
    }

-- so is one of ControlSpace to which no refusal applies
pub answer-accept : (r : Room) (vs : List ℤ) (p : Port) (bs buffer : List ℕ) (c : Called) (vs' : List ℤ) (buffer' : List ℕ)
    → sound r.table ≡ true → values_sound r vs ≡ true → reply_limit ≤ length buffer → p.len ≤ line_limit
    → Answers r vs p bs buffer c vs' buffer' → Accepted (control_space r) vs p bs buffer c vs' buffer'
answer-accept r vs p bs buffer c vs' buffer' s g h k a =
    accept (control_space r) vs p bs buffer c vs' buffer' (rw (accepted r vs (length buffer) p.len s g h k) at a)

-- ---- how much is consumed and claimed, and how long the reply is

module _ {S : Type 0} (server : Server S) (v : View) (s : S) (bs : List ℕ) where
  pub consumed_most : (step server s v bs).consumed ≤ length bs
  unfolding replied waiting
  consumed_most = go (has 0x0D bs) refl
    where
      go : (t : Bool) → has 0x0D bs ≡ t → (step server s v bs).consumed ≤ length bs
      go true e = rw (step-finishes server s v bs e) (omega (arith, has_within 0x0D bs e))
      go false e = rw (step_waits server s v bs e) (omega arith)

  -- a call that is given a byte consumes one or more
  pub consumed_some : 1 ≤ length bs → 1 ≤ (step server s v bs).consumed
  unfolding replied waiting
  consumed_some h = go (has 0x0D bs) refl
    where
      go : (t : Bool) → has 0x0D bs ≡ t → 1 ≤ (step server s v bs).consumed
      go true e = rw (step-finishes server s v bs e) (omega arith)
      go false e = rw (step_waits server s v bs e) h

  -- the port that it leaves claims at most 64 bytes
  pub step-claim : claim (step server s v bs).port ≤ line_limit
  unfolding replied waiting
  step-claim = go (has 0x0D bs) refl
    where
      go : (t : Bool) → has 0x0D bs ≡ t → claim (step server s v bs).port ≤ line_limit
      go true e = rw (step-finishes server s v bs e) fresh-few
      go false e = rw (step_waits server s v bs e) (claim-join v bs)

-- the reply of any step of ControlSpace fits 64 bytes
pub step_fits : (r : Room) (vs : List ℤ) (v : View) (bs : List ℕ) → sound r.table ≡ true → values_sound r vs ≡ true
    → length (step (control_space r) vs v bs).reply ≤ 64
unfolding replied waiting reply_limit
step_fits r vs v bs s g = go (has 0x0D bs) refl
  where
    go : (b : Bool) → has 0x0D bs ≡ b → length (step (control_space r) vs v bs).reply ≤ 64
    go true e = rw (step-finishes (control_space r) vs v bs e) (reply_fits r vs (join v (before 0x0D bs)) s g)
    go false e = rw (step_waits (control_space r) vs v bs e) (omega arith)
