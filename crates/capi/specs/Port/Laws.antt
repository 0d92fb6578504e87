-- Laws of the port call for C: the fresh port's bytes, what a refusal and a call given no bytes leave, and that one call's port serves the next.
use Rattle.std.specs.Prelude.{◌≡◌, List, [], ◌∷◌, ℕ, suc, ◌≤◌, ℤ, length, get_or, replicate, None}
use Rattle.std.proofs.Math.Path.{refl, sym}
use Rattle.std.proofs.Common.{◌∙◌, ap}
use Rattle.syntax.specs.Shape.{line_limit}
use Rattle.values.specs.Room.{Room}
use Rattle.line.specs.Fault.Laws.{none_numbers}
use Rattle.serial_port.specs.Port.{fresh, view}
use Rattle.serial_port.specs.Port.Seen.{seen_fresh}
use Rattle.serial_port.specs.Call.{step}
use Rattle.serial_port.specs.Call.Telling.{call_number_lem, refused-told, nothing_told, nothing_seen, served-claim}
use Rattle.serial_port.specs.Refusal.{call_number}
use Rattle.serial_port.specs.Server.{control_space}
use Rattle.capi.specs.Port.{Left, PortCalled, called, counted, port_answer, port_of, port_tells}

-- 66 zero bytes are the fresh port
pub zeros-fresh : view (port_of (replicate 66 0)) ≡ fresh
unfolding port_of
zeros-fresh = seen_fresh (port_of (replicate 66 0)) refl refl

pub claim-said : (port : List ℕ) → get_or port 0 0 ≤ line_limit → (port_of port).len ≤ line_limit
unfolding port_of
claim-said port h = h

module _ (r : Room) (vs : List ℤ) (port reply : List ℕ) where
  -- a refusal counts zero, and changes neither the values nor the reply buffer
  pub answer-refused : (given : List ℕ) (n : ℕ) → call_number r vs (length reply) (port_of port).len ≡ suc n
      → port_answer r vs port given reply ≡ port_tells (suc n) (0 ∷ 0 ∷ 0 ∷ 0 ∷ []) vs reply
  unfolding port_answer counted
  answer-refused given n e = rw (refused-told r vs (port_of port) given reply n e, ← none_numbers None refl) refl

  -- nor does a call that is given no bytes
  pub answer-nothing : call_number r vs (length reply) (port_of port).len ≡ 0 → port_answer r vs port [] reply ≡ port_tells 0 (0 ∷ 0 ∷ 0 ∷ 0 ∷ []) vs reply
  unfolding port_answer counted
  answer-nothing e = rw (nothing_told r vs (port_of port) reply e, ← none_numbers None refl) refl

-- ---- the two parts of the promise

module _ {r : Room} {vs : List ℤ} {port given reply : List ℕ} {g : ℕ} {vs' : List ℤ} {port' reply' told' : List ℕ} where
  pub answers_by : PortCalled r vs port given reply g vs' port' reply' told' → port_tells g told' vs' reply' ≡ port_answer r vs port given reply
  answers_by (called answers left) = answers

  pub left_by : PortCalled r vs port given reply g vs' port' reply' told'
      → Left (call_number r vs (length reply) (port_of port).len) given port (step (control_space r) vs (view (port_of port)) given).port port'
  left_by (called answers left) = left

-- ---- the port's bytes

module _ {r : Room} {vs : List ℤ} {port given reply : List ℕ} {g : ℕ} {vs' : List ℤ} {port' reply' told' : List ℕ}
    (c : PortCalled r vs port given reply g vs' port' reply' told') where
  number_by_lem : call_number r vs (length reply) (port_of port).len ≡ g
  unfolding port_tells port_answer counted
  number_by_lem = sym (ap (λ a. a.number) (answers_by c) ∙ call_number_lem r vs (port_of port) given reply)

  -- a refusal leaves every byte as it was
  pub refused-bytes : (n : ℕ) → g ≡ suc n → port' ≡ port
  refused-bytes n e = let l = left_by c in rw (number_by_lem ∙ e) at l

  -- an accepted call leaves a port that is seen as the call says, also where it is given no bytes, and that claims at most 64
  pub served-seen : g ≡ 0 → (view (port_of port') ≡ (step (control_space r) vs (view (port_of port)) given).port) × ((port_of port').len ≤ line_limit)
  served-seen z = let l = left_by c in go given refl (rw (number_by_lem ∙ z) at l)
    where
      go : (bs : List ℕ) → given ≡ bs → Left 0 bs port (step (control_space r) vs (view (port_of port)) given).port port'
          → (view (port_of port') ≡ (step (control_space r) vs (view (port_of port)) given).port) × ((port_of port').len ≤ line_limit)
      go [] e l = (
        rw (l, e) (sym (nothing_seen r vs (port_of port) reply (number_by_lem ∙ z))),
        rw l (served-claim r vs (length reply) (port_of port).len (number_by_lem ∙ z)),
      )
      go (b ∷ bs) e s = (s.seen, claim-said port' s.few)
