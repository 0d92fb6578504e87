-- What serves the lines of a port: a line's reply, why it is 99, and the state after it.
pub mod Laws
use Rattle.std.specs.Prelude.{List, ℕ, ℤ, Option, Some}
use Rattle.spelling.specs.Acknowledgement.{nak}
use Rattle.values.specs.Room.{Room}
use Rattle.line.specs.Answer.{answer}
use Rattle.syntax.specs.Shape.{line_limit}
use Rattle.syntax.specs.declared.cause.Cause.TheVariants.{Overrun}
use Rattle.syntax.specs.declared.cause.Malformed.{Malformed}

-- the one reply to a line, why it is 99, and the state after it
pub record Reply (S : Type 0) : Type 0 where
  pub reply : List ℕ
  pub fault : Option Malformed
  pub state : S

-- how lines are served in each state: one of at most 64 bytes, and a longer one
pub record Server (S : Type 0) : Type 0 where
  pub line : S → List ℕ → Reply S
  pub overrun : S → Reply S

-- ControlSpace in the room r, whose state is the values: a line gets its answer; a longer one gets 99, which shows at byte 64, and changes nothing
unfoldable pub control_space : Room → Server (List ℤ)
control_space r =
    record {
      line = λ vs l. record { reply = (answer r vs l).reply; fault = (answer r vs l).fault; state = (answer r vs l).values };
      overrun = λ vs. record { reply = nak 99; fault = Some (record { cause = Overrun; place = line_limit }); state = vs };
    }
