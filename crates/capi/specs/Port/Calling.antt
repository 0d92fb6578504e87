-- Rules for the code of the port call: one for each way to return.
use Rattle.std.specs.Prelude.{◌≡◌, refl, List, [], ◌∷◌, ℕ, zero, suc, ◌≤◌, ℤ, length, get_or}
use Rattle.std.proofs.Common.{sym, ◌∙◌, ap, arith}
use Rattle.syntax.specs.Shape.{line_limit}
use Rattle.values.specs.Room.{Room}
use Rattle.line.specs.Fault.{fault_numbers}
use Rattle.line.specs.Fault.Laws.{two_numbers}
use Rattle.serial_port.specs.Port.{View, view}
use Rattle.serial_port.specs.Call.{Answers, step}
use Rattle.serial_port.specs.Call.Telling.{call-field, number_by_lem, refused-consumed, refused-sent, nothing_consumed, nothing_sent, seen_by, few_by}
use Rattle.serial_port.specs.Refusal.{call_number}
use Rattle.serial_port.specs.Server.{control_space}
use Rattle.serial_port.specs.declared.port.Port.{Port}
use Rattle.serial_port.specs.declared.port.Called.{Called}
use Rattle.capi.specs.Port.{Left, PortCalled, Stores, called, counted, port_answer, port_of, port_tells}
use Rattle.capi.specs.Port.Bytes.{bytes_of, bytes-claim, bytes-flag, bytes-say}

-- ---- what a call leaves in the port's bytes

left_refused : (n : ℕ) (given port : List ℕ) (v : View) → (n ≡ 0 → ⊥) → Left n given port v port
left_refused zero given port v h = absurd (h refl)
left_refused (suc n) given port v h = refl

left_nothing : (n : ℕ) (given port : List ℕ) (v : View) → length given ≡ 0 → Left n given port v port
left_nothing (suc n) given port v h = refl
left_nothing zero [] port v h = refl
left_nothing zero (b ∷ given) port v h = absurd (omega arith)

left_stored : (given port : List ℕ) (v : View) (port' : List ℕ) → (length given ≡ 0 → ⊥) → Stores v port' → Left 0 given port v port'
left_stored [] port v port' h s = absurd (h refl)
left_stored (b ∷ given) port v port' h s = s

pub stored : (q : Port) (v : View) → view q ≡ v → q.len ≤ line_limit → Stores v (bytes_of q)
stored q v s few = record { seen = rw (bytes-say q) s; few = rw (bytes-claim q) few; flag = bytes-flag q }

-- ---- the call

module _ (r : Room) (vs : List ℤ) (port given reply : List ℕ) (p : Port) (c : Called) (vs' : List ℤ) (reply' : List ℕ) (e : p ≡ port_of port)
    (a : Answers r vs p given reply c vs' reply') where
  made : Answers r vs (port_of port) given reply c vs' reply'
  made = rw e at a

  answered : port_tells c.number (c.consumed ∷ c.sent ∷ fault_numbers c.fault) vs' reply' ≡ port_answer r vs port given reply
  unfolding port_answer counted
  answered = call-field r vs (port_of port) given reply made counted

  number_is : call_number r vs (length reply) (port_of port).len ≡ c.number
  number_is = sym (number_by_lem made)

  -- the four numbers, where the code has the two of the fault in a block
  four : (x y : ℕ) (ns : List ℕ) → x ≡ c.consumed → y ≡ c.sent → ns ≡ fault_numbers c.fault
      → x ∷ y ∷ get_or ns 0 0 ∷ get_or ns 1 0 ∷ [] ≡ c.consumed ∷ c.sent ∷ fault_numbers c.fault
  four x y ns u v e = rw (u, v, e) (ap (λ l. c.consumed ∷ c.sent ∷ l) (two_numbers c.fault))

  -- a call that is refused, or given no bytes, counts zero
  pub call-refused : (x y : ℕ) (ns : List ℕ) → ns ≡ fault_numbers c.fault → (c.number ≡ 0 → ⊥) → x ≡ 0 → y ≡ 0
      → PortCalled r vs port given reply c.number vs' port reply' (x ∷ y ∷ get_or ns 0 0 ∷ get_or ns 1 0 ∷ [])
  call-refused x y ns e h u v =
      called
      (rw (four x y ns (u ∙ sym (refused-consumed a h)) (v ∙ sym (refused-sent a h)) e) answered)
      (rw number_is (left_refused c.number given port (step (control_space r) vs (view (port_of port)) given).port h))

  module _ (z : c.number ≡ 0) where
    answered-served : port_tells 0 (c.consumed ∷ c.sent ∷ fault_numbers c.fault) vs' reply' ≡ port_answer r vs port given reply
    answered-served = rw z at answered

    pub call-few : c.port.len ≤ 64
    unfolding line_limit
    call-few = few_by made z

    pub call-nothing : (x y : ℕ) (ns : List ℕ) → ns ≡ fault_numbers c.fault → length given ≡ 0 → x ≡ 0 → y ≡ 0
        → PortCalled r vs port given reply 0 vs' port reply' (x ∷ y ∷ get_or ns 0 0 ∷ get_or ns 1 0 ∷ [])
    call-nothing x y ns e h u v =
        called
        (rw (four x y ns (u ∙ sym (nothing_consumed a z h)) (v ∙ sym (nothing_sent a z h)) e) answered-served)
        (left_nothing (call_number r vs (length reply) (port_of port).len) given port (step (control_space r) vs (view (port_of port)) given).port h)

    pub call-stored : (port' ns : List ℕ) → ns ≡ fault_numbers c.fault → (length given ≡ 0 → ⊥) → port' ≡ bytes_of c.port
        → PortCalled r vs port given reply 0 vs' port' reply' (c.consumed ∷ c.sent ∷ get_or ns 0 0 ∷ get_or ns 1 0 ∷ [])
    call-stored port' ns e h b =
        let v = (step (control_space r) vs (view (port_of port)) given).port in
        called (rw (four c.consumed c.sent ns refl refl e) answered-served) (rw (number_is ∙ z, b) (left_stored given port v (bytes_of c.port) h (stored c.port v (seen_by made z) (few_by made z))))

pub ruleset calling = (call-refused, call-few, call-nothing, call-stored, refused-consumed, refused-sent, nothing_consumed, nothing_sent)
