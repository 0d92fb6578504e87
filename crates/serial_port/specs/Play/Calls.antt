-- Playing with calls as they were made, whoever made them: all that is asked of each is the promise of `Port::take`.
pub mod Laws
use Rattle.std.specs.Prelude.{◌≡◌, cond, List, [], ◌∷◌, ℕ, ◌≤◌, eqb, ℤ, length, take, drop}
use Rattle.values.specs.Room.{Room}
use Rattle.syntax.specs.Shape.{line_limit}
use Rattle.serial_port.specs.Port.{view, fresh}
use Rattle.serial_port.specs.Call.{Answers}
use Rattle.serial_port.specs.Refusal.{reply_limit}
use Rattle.serial_port.specs.declared.port.Port.{Port}
use Rattle.serial_port.specs.declared.port.Called.{Called}

-- a port that counts as the fresh one
pub record AsFresh (p : Port) : Type 0 where
  pub seen : view p ≡ fresh
  pub few : p.len ≤ line_limit

-- a call that was made: the reply buffer before it, its answer, and the values and the reply buffer after it
pub record Made : Type 0 where
  pub buffer : List ℕ
  pub answer : Called
  pub values : List ℤ
  pub after : List ℕ

-- calls that play bs from port p and values vs on: each is given what is left, the port and the values of the call before, and 64 bytes or more
-- for its reply, and answers as promised; the last leaves nothing
abbrev pub Plays : Room → List Made → Port → List ℤ → List ℕ → Type 0
Plays r [] p vs bs = bs ≡ []
Plays r (c ∷ cs) p vs bs =
    (reply_limit ≤ length c.buffer) × Answers r vs p bs c.buffer c.answer c.values c.after
    × Plays r cs c.answer.port c.values (drop c.answer.consumed bs)

-- the port and the values at the end
unfoldable pub last_port : List Made → Port → Port
last_port [] p = p
last_port (c ∷ cs) p = last_port cs c.answer.port

unfoldable pub last_values : List Made → List ℤ → List ℤ
last_values [] vs = vs
last_values (c ∷ cs) vs = last_values cs c.values

-- the replies in order; a call that sent nothing gave none
unfoldable pub replies : List Made → List (List ℕ)
replies [] = []
replies (c ∷ cs) = cond (eqb c.answer.sent 0) (replies cs) (take c.answer.sent c.after ∷ replies cs)
