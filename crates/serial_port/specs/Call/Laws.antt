-- Laws of one call.
use Rattle.std.specs.Prelude.{◌≡◌, true, false, List, [], ℕ, zero, suc, ◌+◌, ◌≤◌, ℤ, length, take, drop}
use Rattle.std.proofs.Math.Path.{refl}
use Rattle.std.proofs.Common.{sym, ◌∙◌, arith, take_at}
use Rattle.std.proofs.lemmas.List.Edits.{sets, sets-eq}
use Rattle.text.specs.Cut.{has, index_of, before}
use Rattle.text.specs.Cut.Found.{has-nothing}
use Rattle.room.specs.Table.{sound}
use Rattle.values.specs.Room.{Room}
use Rattle.values.specs.Values.{values_sound}
use Rattle.syntax.specs.Shape.{line_limit}
use Rattle.spelling.specs.Acknowledgement.Laws.{nak-length}
use Rattle.line.specs.Answer.Replies.{reply_limit_lem}
use Rattle.line.specs.Answer.Sent.{reply_some}
use Rattle.serial_port.specs.Server.{Server, control_space}
use Rattle.serial_port.specs.Server.Laws.{line_reply, overrun_reply}
use Rattle.serial_port.specs.Port.{View, held, over, view, Same, claim, join, gather}
use Rattle.serial_port.specs.Port.Laws.{join-nothing, same_seen, seen_same}
use Rattle.serial_port.specs.Call.{step, served, replied, waiting, finish, tell, tells, call, Handed, Takes, takes, Answers}
use Rattle.serial_port.specs.Refusal.{reply_limit, call_number}
use Rattle.serial_port.specs.Refusal.Laws.{refused-alike}
use Rattle.serial_port.specs.declared.port.Port.{Port}
use Rattle.serial_port.specs.declared.port.Called.{Called}

-- ---- the two parts of the promise

module _ {S : Type 0} {server : Server S} {number : ℕ} {s : S} {p : Port} {bs buffer : List ℕ} {c : Called} {s' : S} {buffer' : List ℕ} where
  pub told-by : Takes server number s p bs buffer c s' buffer' → tells c s' buffer' ≡ tell number s buffer (step server s (view p) bs)
  told-by (takes told handed) = told

  pub handed_by : Takes server number s p bs buffer c s' buffer' → Handed number p (step server s (view p) bs).port c.port
  handed_by (takes told handed) = handed

-- ---- the two kinds of call

module _ {S : Type 0} (server : Server S) (s : S) (v : View) where
  pub step-finishes : (bs : List ℕ) → has 0x0D bs ≡ true
      → step server s v bs ≡ replied (suc (index_of 0x0D bs)) (finish server s (join v (before 0x0D bs)))
  unfolding step served gather
  step-finishes bs h = rw h refl

  pub step_waits : (bs : List ℕ) → has 0x0D bs ≡ false → step server s v bs ≡ waiting s (length bs) (join v bs)
  unfolding step served gather
  step_waits bs h = rw h refl

  -- zero bytes given change nothing
  pub step-nothing : claim v ≤ line_limit → step server s v [] ≡ waiting s 0 v
  step-nothing h = rw (step_waits [] (has-nothing 0x0D), join-nothing v h) refl

-- ---- the reply

-- what was written at the start of a buffer
pub written_first : (buffer l : List ℕ) → length l ≤ length buffer → take (length l) (sets buffer 0 l) ≡ l
written_first buffer l h = rw (sets-eq l buffer 0 (omega arith)) (take_at l (drop (0 + length l) buffer) (length l) refl)

-- every reply of ControlSpace fits a buffer of 64 bytes
pub reply_fits : (r : Room) (vs : List ℤ) (v : View) → sound r.table ≡ true → values_sound r vs ≡ true
    → length (finish (control_space r) vs v).reply ≤ reply_limit
unfolding finish reply_limit
reply_fits r vs (held l) s g = rw (line_reply r vs l) (omega (arith, reply_limit_lem r vs l s g))
reply_fits r vs over s g = rw (overrun_reply r vs) (omega (arith, nak-length 99))

-- and has a byte or more
pub reply_sent : (r : Room) (vs : List ℤ) (v : View) → sound r.table ≡ true → values_sound r vs ≡ true → 1 ≤ length (finish (control_space r) vs v).reply
unfolding finish
reply_sent r vs (held l) s g = rw (line_reply r vs l) (reply_some r vs l s g)
reply_sent r vs over s g = rw (overrun_reply r vs) (omega (arith, nak-length 99))

-- ---- ports that count as the same

-- a call does not tell them apart where neither claims over 64 bytes
pub same-call : (r : Room) (vs : List ℤ) (p q : Port) (bs buffer : List ℕ) → p.len ≤ line_limit → q.len ≤ line_limit → Same p q
    → call r vs p bs buffer ≡ call r vs q bs buffer
unfolding call
same-call r vs p q bs buffer h k s = rw (same_seen p q s, refused-alike r vs (length buffer) p.len q.len h k) refl

handed_alike : (number : ℕ) (v : View) (p p' q r : Port) → Same p p' → Handed number p v q → Handed number p' v r → Same q r
handed_alike zero v p p' q r s h k = seen_same q r h.1 k.1 (h.0 ∙ sym k.0)
handed_alike (suc n) v p p' q r s h k = rw (h, k) s

-- given the same bytes, they are handed back as ports that count as the same
pub same-handed : (r : Room) (vs : List ℤ) (p p' : Port) (bs buffer : List ℕ) → p.len ≤ line_limit → p'.len ≤ line_limit → Same p p'
    → (c c' : Called) (vs' vs'' : List ℤ) (buffer' buffer'' : List ℕ) → Answers r vs p bs buffer c vs' buffer' → Answers r vs p' bs buffer c' vs'' buffer''
    → Same c.port c'.port
same-handed r vs p p' bs buffer h k s c c' vs' vs'' buffer' buffer'' a b =
    let number = call_number r vs (length buffer) p.len in
    let seen = (step (control_space r) vs (view p) bs).port in
    let handed : Handed number p' seen c'.port =
    rw (same_seen p p' s, refused-alike r vs (length buffer) p.len p'.len h k) (handed_by b) in
    handed_alike number seen p p' c.port c'.port s (handed_by a) handed
