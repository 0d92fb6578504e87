-- Rules for the code of a call: the ways in which it returns.
use Rattle.std.specs.Prelude.{◌≡◌, true, false, not, List, ℕ, ◌≤◌, ℤ, length, None}
use Rattle.std.proofs.Math.Path.{sym}
use Rattle.std.proofs.Common.{◌∙◌, arith}
use Rattle.std.proofs.Math.Nat.{zero-add}
use Rattle.std.proofs.lemmas.Bool.{not-false, not-true}
use Rattle.text.specs.Written.Laws.{past_by, bytes-by}
use Rattle.room.specs.Refusal.{refusal_number}
use Rattle.room.specs.Refusal.Laws.{refusal-some}
use Rattle.room.specs.Table.{sound}
use Rattle.room.specs.declared.refusal.Refusal.{Refusal}
use Rattle.values.specs.Room.{Room}
use Rattle.values.specs.Values.{values_sound}
use Rattle.syntax.specs.Shape.{line_limit}
use Rattle.line.specs.declared.answer.Answered.{Answered}
use Rattle.serial_port.specs.Server.{control_space}
use Rattle.serial_port.specs.Port.{view, fresh, Gathers}
use Rattle.serial_port.specs.Port.Gathering.{gathered-few}
use Rattle.serial_port.specs.Call.{Answers, finish}
use Rattle.serial_port.specs.Call.Finishing.{Finishes, finishes}
use Rattle.serial_port.specs.Call.Rules.{refusal, returns_refused, returns_waiting, returns_finished}
use Rattle.serial_port.specs.Refusal.{call_number, claim_number, reply_limit}
use Rattle.serial_port.specs.Refusal.Laws.{accepted, number-tested}
use Rattle.serial_port.specs.Refusal.Number.{passed_claim}
use Rattle.serial_port.specs.Refusal.Telling.{none_told}
use Rattle.serial_port.specs.declared.port.Called.{Called}
use Rattle.serial_port.specs.declared.port.Port.{Port}
use Rattle.serial_port.specs.declared.port.Gathered.{Gathered}

-- ---- a call with its number

module _ (r : Room) (vs : List ℤ) (p : Port) (bs buffer : List ℕ) (n : ℕ) (c : Called) (q : c ≡ refusal p n) (h : n ≡ 0 → ⊥) where
  pub taken_refused : n ≡ call_number r vs (length buffer) p.len → Answers r vs p bs buffer c vs buffer
  taken_refused e = rw (← e, q) (returns_refused (control_space r) vs p bs buffer n h)

  -- the port's claim was the only test left
  pub tested_refused : sound r.table ≡ true → values_sound r vs ≡ true → 64 ≤ length buffer → n ≡ claim_number p.len → Answers r vs p bs buffer c vs buffer
  unfolding reply_limit
  tested_refused s v k e = taken_refused (e ∙ sym (number-tested r vs (length buffer) p.len s v k))

-- the same by the refusal of which the number is told
module _ (r : Room) (vs : List ℤ) (p : Port) (bs buffer : List ℕ) (n : ℕ) (c : Called) (q : c ≡ refusal p n) (x : Refusal) (b : n ≡ refusal_number x) where
  pub taken_by : refusal_number x ≡ call_number r vs (length buffer) p.len → Answers r vs p bs buffer c vs buffer
  taken_by e = taken_refused r vs p bs buffer n c q (λ z. refusal-some x (sym b ∙ z)) (b ∙ e)

  pub tested_by : sound r.table ≡ true → values_sound r vs ≡ true → 64 ≤ length buffer → refusal_number x ≡ claim_number p.len
      → Answers r vs p bs buffer c vs buffer
  tested_by s v k e = tested_refused r vs p bs buffer n c q (λ z. refusal-some x (sym b ∙ z)) s v k (b ∙ e)

-- the claim was passed
pub claim-held : (p : Port) (n : ℕ) → n ≡ claim_number p.len → n ≡ 0 → p.len ≤ 64
unfolding line_limit
claim-held p n e z = passed_claim p.len (sym e ∙ z)

pub ruleset taking = (taken_by, none_told)

pub ruleset taking_tested = (tested_by, claim-held)

-- ---- a call that is served

module _ (r : Room) (vs : List ℤ) (p : Port) (bs buffer : List ℕ) (g : Gathered) (c : Gathers p bs g) (s : sound r.table ≡ true) (v : values_sound r vs ≡ true)
    (h : 64 ≤ length buffer) (k : p.len ≤ 64) where
  number : call_number r vs (length buffer) p.len ≡ 0
  unfolding reply_limit line_limit
  number = accepted r vs (length buffer) p.len s v h k

  pub served-waiting : not g.finished ≡ true
      → Answers r vs p bs buffer (record { port = g.port; consumed = g.consumed; sent = 0; fault = None; number = 0 }) vs buffer
  served-waiting w = rw number (returns_waiting (control_space r) vs p bs buffer g c (not-true g.finished w))

  pub served-finished : (a : Answered) (vs' : List ℤ) (buffer' : List ℕ) (q : Port) → not g.finished ≡ false
      → Finishes (control_space r) vs g.port buffer a vs' buffer' → view q ≡ fresh → q.len ≡ 0
      → Answers r vs p bs buffer (record { port = q; consumed = g.consumed; sent = a.sent; fault = a.fault; number = 0 }) vs' buffer'
  unfolding line_limit
  served-finished a vs' buffer' q w (finishes x f v) e z =
      rw number
      (returns_finished (control_space r) vs p bs buffer g c q a.sent a.fault vs' buffer' (not-false g.finished w)
      (past_by x ∙ zero-add (length (finish (control_space r) vs (view g.port)).reply)) f v (bytes-by x) e (omega arith))

pub served-few : (p : Port) (bs : List ℕ) (g : Gathered) → Gathers p bs g → g.port.len ≤ 64
unfolding line_limit
served-few p bs g c = gathered-few c

pub ruleset serving = (served-waiting, served-finished, served-few)
