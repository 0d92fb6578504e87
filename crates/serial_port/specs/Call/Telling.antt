-- What a call tells, field by field: any call, a refused one, and one that is given no bytes.
use Rattle.std.specs.Prelude.{◌≡◌, ℤ, length, None}
use Rattle.std.proofs.Math.Path.{refl, ap}
use Rattle.std.proofs.Common.{sym, ◌∙◌, arith}
use mathlib.Core.List.{List, [], ◌∷◌}
use Prim.Native.Nat.{ℕ, zero, suc, ◌≤◌}
use Rattle.text.specs.Cut.Found.{has-nothing}
use Rattle.values.specs.Room.{Room}
use Rattle.syntax.specs.Shape.{line_limit}
use Rattle.serial_port.specs.Server.{Server, control_space}
use Rattle.serial_port.specs.Port.{view}
use Rattle.serial_port.specs.Port.Laws.{claim-view}
use Rattle.serial_port.specs.Call.{Step, Told, step, waiting, tell, call, tells, Handed, Takes, takes, Answers}
use Rattle.serial_port.specs.Call.Laws.{told-by, handed_by, step-nothing, step_waits}
use Rattle.serial_port.specs.Refusal.{call_number}
use Rattle.serial_port.specs.Refusal.Telling.{none_claim}
use Rattle.serial_port.specs.declared.port.Port.{Port}
use Rattle.serial_port.specs.declared.port.Called.{Called}

tell-number : {S : Type 0} (n : ℕ) (s : S) (buffer : List ℕ) (x : Step S) → (tell n s buffer x).number ≡ n
unfolding tell
tell-number zero s buffer x = refl
tell-number (suc n) s buffer x = refl

-- ---- the answer of a call that was made, whatever serves its lines

module _ {S : Type 0} {server : Server S} {number : ℕ} {s : S} {p : Port} {bs buffer : List ℕ} {c : Called} {s' : S} {buffer' : List ℕ}
    (a : Takes server number s p bs buffer c s' buffer') where
  -- a field of what it told, or whatever else is made of that
  pub told-field : {A : Type 0} (f : Told S → A)
      → f (record { number = c.number; consumed = c.consumed; sent = c.sent; fault = c.fault; state = s'; buffer = buffer' })
      ≡ f (tell number s buffer (step server s (view p) bs))
  unfolding tells
  told-field f = ap f (told-by a)

  pub number_by_lem : c.number ≡ number
  number_by_lem = told-field (λ x. x.number) ∙ tell-number number s buffer (step server s (view p) bs)

  told-as : (n : ℕ) → number ≡ n → tells c s' buffer' ≡ tell n s buffer (step server s (view p) bs)
  told-as n e = rw e at (told-by a)

  -- a refused one counts zero, and tells no fault
  module _ (r : c.number ≡ 0 → ⊥) where
    refused : (n : ℕ) → number ≡ n → (c.consumed ≡ 0) × (c.sent ≡ 0) × (c.fault ≡ None)
    unfolding tells tell
    refused zero e = absurd (r (number_by_lem ∙ e))
    refused (suc n) e =
        let told = told-as (suc n) e in
        (ap (λ x. x.consumed) told, ap (λ x. x.sent) told, ap (λ x. x.fault) told)

    pub refused-consumed : c.consumed ≡ 0
    refused-consumed = (refused number refl).0

    pub refused-sent : c.sent ≡ 0
    refused-sent = (refused number refl).1

    pub refused-fault : c.fault ≡ None
    refused-fault = (refused number refl).2

  -- and so does one that is served, and given no bytes
  module _ (z : c.number ≡ 0) (none : length bs ≡ 0) where
    nothing : (given : List ℕ) → bs ≡ given → length given ≡ 0 → (c.consumed ≡ 0) × (c.sent ≡ 0) × (c.fault ≡ None)
    unfolding tells tell waiting
    nothing [] e h =
        let told = rw (e, step_waits server s (view p) [] (has-nothing 0x0D)) at (told-as 0 (sym number_by_lem ∙ z)) in
        (ap (λ x. x.consumed) told, ap (λ x. x.sent) told, ap (λ x. x.fault) told)
    nothing (b ∷ given) e h = absurd (omega arith)

    pub nothing_consumed : c.consumed ≡ 0
    nothing_consumed = (nothing bs refl none).0

    pub nothing_sent : c.sent ≡ 0
    nothing_sent = (nothing bs refl none).1

    pub nothing_fault : c.fault ≡ None
    nothing_fault = (nothing bs refl none).2

  -- the port that is handed back by a call that is served
  handed : c.number ≡ 0 → Handed 0 p (step server s (view p) bs).port c.port
  handed z = let h = handed_by a in rw (sym number_by_lem ∙ z) at h

  pub seen_by : c.number ≡ 0 → view c.port ≡ (step server s (view p) bs).port
  seen_by z = (handed z).0

  pub few_by : c.number ≡ 0 → c.port.len ≤ line_limit
  few_by z = (handed z).1

-- ---- what ControlSpace's call tells

module _ (r : Room) (vs : List ℤ) (p : Port) (bs buffer : List ℕ) where
  pub call_number_lem : (call r vs p bs buffer).number ≡ call_number r vs (length buffer) p.len
  unfolding call
  call_number_lem = tell-number (call_number r vs (length buffer) p.len) vs buffer (step (control_space r) vs (view p) bs)

  -- a refusal counts zero and changes nothing
  pub refused-told : (n : ℕ) → call_number r vs (length buffer) p.len ≡ suc n
      → call r vs p bs buffer ≡ record { number = suc n; consumed = 0; sent = 0; fault = None; state = vs; buffer = buffer }
  unfolding call tell
  refused-told n e = rw e refl

  -- a field of what a call that was made told
  pub call-field : {c : Called} {vs' : List ℤ} {buffer' : List ℕ} → Answers r vs p bs buffer c vs' buffer' → {A : Type 0} (f : Told (List ℤ) → A)
      → f (record { number = c.number; consumed = c.consumed; sent = c.sent; fault = c.fault; state = vs'; buffer = buffer' }) ≡ f (call r vs p bs buffer)
  unfolding call
  call-field a f = told-field a f

  -- what the call tells, with a port that is seen as it says, keeps the promise of a call that is served
  pub call_kept : (q : Port) → call_number r vs (length buffer) p.len ≡ 0 → view q ≡ (step (control_space r) vs (view p) bs).port → q.len ≤ line_limit
      → (t : Told (List ℤ)) → t ≡ call r vs p bs buffer
      → Answers r vs p bs buffer (record { port = q; consumed = t.consumed; sent = t.sent; fault = t.fault; number = t.number }) t.state t.buffer
  unfolding call tells
  call_kept q e seen few t h = takes h (rw e (seen, few))

-- a port that is served claims at most 64 bytes
pub served-claim : (r : Room) (vs : List ℤ) (reply_room claimed : ℕ) → call_number r vs reply_room claimed ≡ 0 → claimed ≤ line_limit
unfolding line_limit
served-claim r vs reply_room claimed e = none_claim r vs reply_room claimed (call_number r vs reply_room claimed) refl e

-- zero bytes given to a call that is served
module _ (r : Room) (vs : List ℤ) (p : Port) (buffer : List ℕ) (e : call_number r vs (length buffer) p.len ≡ 0) where
  nothing_step : step (control_space r) vs (view p) [] ≡ waiting vs 0 (view p)
  nothing_step = step-nothing (control_space r) vs (view p) (claim-view p (served-claim r vs (length buffer) p.len e))

  pub nothing_told : call r vs p [] buffer ≡ record { number = 0; consumed = 0; sent = 0; fault = None; state = vs; buffer = buffer }
  unfolding call tell waiting
  nothing_told = rw (e, nothing_step) refl

  pub nothing_seen : (step (control_space r) vs (view p) []).port ≡ view p
  unfolding waiting
  nothing_seen = rw nothing_step refl
