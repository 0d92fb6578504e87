-- What ControlSpace does with a line, by the answer to it, and with an overrun one.
use Rattle.std.specs.Prelude.{◌≡◌, List, ℕ, ℤ, Option, Some}
use Rattle.std.proofs.Math.Path.{refl}
use Rattle.spelling.specs.Acknowledgement.{nak}
use Rattle.values.specs.Room.{Room}
use Rattle.line.specs.Answer.{answer}
use Rattle.syntax.specs.Shape.{line_limit}
use Rattle.syntax.specs.declared.cause.Cause.TheVariants.{Overrun}
use Rattle.syntax.specs.declared.cause.Malformed.{Malformed}
use Rattle.serial_port.specs.Server.{control_space}

module _ (r : Room) (vs : List ℤ) where
  pub line_reply : (l : List ℕ) → ((control_space r).line vs l).reply ≡ (answer r vs l).reply
  unfolding control_space
  line_reply l = refl

  pub line_fault : (l : List ℕ) → ((control_space r).line vs l).fault ≡ (answer r vs l).fault
  unfolding control_space
  line_fault l = refl

  pub line_state : (l : List ℕ) → ((control_space r).line vs l).state ≡ (answer r vs l).values
  unfolding control_space
  line_state l = refl

  pub line_served : (l reply : List ℕ) (f : Option Malformed) (ws : List ℤ) → answer r vs l ≡ record { reply = reply; values = ws; fault = f }
      → (control_space r).line vs l ≡ record { reply = reply; fault = f; state = ws }
  unfolding control_space
  line_served l reply f ws e = rw e refl

  pub overrun_reply : ((control_space r).overrun vs).reply ≡ nak 99
  unfolding control_space
  overrun_reply = refl

  pub overrun_fault : ((control_space r).overrun vs).fault ≡ Some (record { cause = Overrun; place = line_limit })
  unfolding control_space
  overrun_fault = refl

  pub overrun_state : ((control_space r).overrun vs).state ≡ vs
  unfolding control_space
  overrun_state = refl
