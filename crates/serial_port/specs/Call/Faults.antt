-- When a call tells a fault: exactly where its reply is 99, and at a place of at most 64.
use Rattle.std.specs.Prelude.{◌≡◌, Bool, ◌↔◌, List, ℕ, ◌≤◌, ℤ, None, Option, Some}
use Rattle.std.proofs.Math.Path.{refl, sym, ap}
use Rattle.std.proofs.Common.{◌∙◌}
use Rattle.std.proofs.Math.Bool.{true, false}
use native.Mathlib.Omega.{arith}
use Rattle.std.proofs.Math.ListN.{length}
use Rattle.text.specs.Cut.{has, before}
use Rattle.values.specs.Room.{Room}
use Rattle.syntax.specs.Shape.{line_limit}
use Rattle.syntax.specs.declared.cause.Cause.{Cause}
use Rattle.syntax.specs.declared.cause.Malformed.{Malformed}
use Rattle.syntax.specs.declared.cause.Cause.TheVariants.{Overrun}
use Rattle.spelling.specs.Acknowledgement.{nak}
use Rattle.spelling.specs.Acknowledgement.Laws.{nak-length}
use Rattle.line.specs.Answer.Faults.{fault_exactly_99, fault_within, same_fault}
use Rattle.serial_port.specs.Server.{control_space}
use Rattle.serial_port.specs.Server.Laws.{line_fault, line_reply, overrun_fault, overrun_reply}
use Rattle.serial_port.specs.Port.{View, held, over, join}
use Rattle.serial_port.specs.Call.{finish, replied, step, waiting}
use Rattle.serial_port.specs.Call.Laws.{step-finishes, step_waits}

never {ℓ} : {A : Type ℓ} (k : Cause) (n : ℕ) → ◌≡◌ {A = Option Malformed} None (Some (record { cause = k; place = n })) → A
never k n h = absurd (let z : ◌≡◌ {A = ℕ} 0 1 = cc in omega arith)

module _ (r : Room) (vs : List ℤ) where
  finish-fault : (v : View) → ((finish (control_space r) vs v).reply ≡ nak 99) ↔ ((finish (control_space r) vs v).fault ≡ None → ⊥)
  unfolding finish
  finish-fault (held l) = rw (line_reply r vs l, line_fault r vs l) (fault_exactly_99 r vs l)
  finish-fault over = ((λ q f. never Overrun line_limit (sym f ∙ overrun_fault r vs)), (λ f. overrun_reply r vs))

  finish-within : (v : View) (k : Cause) (n : ℕ) → (finish (control_space r) vs v).fault ≡ Some (record { cause = k; place = n }) → n ≤ 64
  unfolding finish line_limit
  finish-within (held l) k n h = fault_within r vs l k n (sym (line_fault r vs l) ∙ h)
  finish-within over k n h = let e : ◌≡◌ {A = Option Malformed} (Some (record { cause = Overrun; place = 64 })) (Some (record { cause = k; place = n })) = sym (overrun_fault r vs) ∙ h in let q : 64 ≡ n = (same_fault Overrun k 64 n e).1 in omega arith

  -- a call that waits has neither a reply nor a fault
  pub step-fault : (v : View) (bs : List ℕ) → ((step (control_space r) vs v bs).reply ≡ nak 99) ↔ ((step (control_space r) vs v bs).fault ≡ None → ⊥)
  unfolding replied waiting
  step-fault v bs = go (has 0x0D bs) refl
    where
      go : (b : Bool) → has 0x0D bs ≡ b → ((step (control_space r) vs v bs).reply ≡ nak 99) ↔ ((step (control_space r) vs v bs).fault ≡ None → ⊥)
      go true e = rw (step-finishes (control_space r) vs v bs e) (finish-fault (join v (before 0x0D bs)))
      go false e =
          let s = step_waits (control_space r) vs v bs e in (
            (λ q. absurd (omega (arith, nak-length 99, ap length (sym (ap (λ x. x.reply) s) ∙ q)))),
            (λ f. absurd (f (ap (λ x. x.fault) s))),
          )

  pub step-within : (v : View) (bs : List ℕ) (k : Cause) (n : ℕ) → (step (control_space r) vs v bs).fault ≡ Some (record { cause = k; place = n }) → n ≤ 64
  unfolding replied waiting
  step-within v bs k n h = go (has 0x0D bs) refl
    where
      go : (b : Bool) → has 0x0D bs ≡ b → n ≤ 64
      go true e = finish-within (join v (before 0x0D bs)) k n (sym (ap (λ x. x.fault) (step-finishes (control_space r) vs v bs e)) ∙ h)
      go false e = never k n (sym (ap (λ x. x.fault) (step_waits (control_space r) vs v bs e)) ∙ h)
