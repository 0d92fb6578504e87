-- Rules for the code that answers a finished line.
use Rattle.std.specs.Prelude.{◌≡◌, refl, true, false, List, ℕ, ℤ, Some}
use Rattle.std.proofs.Math.ListN.{take}
use Rattle.text.specs.Written.{Wrote}
use Rattle.spelling.specs.Acknowledgement.{nak}
use Rattle.values.specs.Room.{Room}
use Rattle.line.specs.Answer as line
use Rattle.serial_port.specs.Server.{Server, control_space}
use Rattle.serial_port.specs.Server.Laws.{line_fault, line_reply, line_state, overrun_fault, overrun_reply, overrun_state}
use Rattle.serial_port.specs.Port.{view}
use Rattle.serial_port.specs.Call.{finish}
use Rattle.serial_port.specs.declared.port.Port.{Port}
use Rattle.line.specs.Answer.Laws.{reply_by, fault_by, values_by}
use Rattle.line.specs.declared.answer.Answered.{Answered}
use Rattle.syntax.specs.Shape.{line_limit}
use Rattle.syntax.specs.declared.cause.Cause.TheVariants.{Overrun}

-- what serving the line of the port p leaves: the reply at the start of its buffer, its length and fault as the answer a, and the state
pub data Finishes {S : Type 0} (server : Server S) (s : S) (p : Port) (buffer : List ℕ) (a : Answered) (s' : S) (buffer' : List ℕ) : Type 0 where
  finishes : (reply : Wrote buffer 0 (finish server s (view p)).reply a.sent buffer') → (fault : a.fault ≡ (finish server s (view p)).fault)
      → (state : s' ≡ (finish server s (view p)).state) → Finishes server s p buffer a s' buffer'

module _ (r : Room) (vs : List ℤ) (p : Port) (buffer buffer' : List ℕ) where
  pub finishes_over : (n : ℕ) → p.overrun ≡ true → Wrote buffer 0 (nak 99) n buffer'
      → Finishes (control_space r) vs p buffer (record { sent = n; fault = Some (record { cause = Overrun; place = 64 }) }) vs buffer'
  unfolding view finish line_limit
  finishes_over n o w = finishes (rw (o, overrun_reply r vs) w) (rw (o, overrun_fault r vs) refl) (rw (o, overrun_state r vs) refl)

  pub finishes_line : (x : Answered) (vs' : List ℤ) → p.overrun ≡ false → line.Answers r vs (take p.len p.held) buffer x vs' buffer'
      → Finishes (control_space r) vs p buffer x vs' buffer'
  unfolding view finish
  finishes_line x vs' o a =
      let l = take p.len p.held in
      finishes (rw (o, line_reply r vs l) (reply_by a)) (rw (o, line_fault r vs l) (fault_by a)) (rw (o, line_state r vs l) (values_by a))

pub ruleset finishing = (finishes_over, finishes_line)
