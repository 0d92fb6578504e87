-- The answer to a line: its reply, why it was 99, and the values afterwards.
pub mod Crosspoints
pub mod Faults
pub mod Laws
pub mod Replies
pub mod Replying
pub mod Sent
use Rattle.std.specs.Prelude.{◌≡◌, List, ℕ, ℤ, pos, get_or, set, None, Option, Some}
use Rattle.text.specs.Written.{Wrote}
use Rattle.values.specs.Parameters.{place}
use Rattle.values.specs.Room.{Room}
use Rattle.line.specs.Meaning.{meaning}
use Rattle.spelling.specs.Reply.{get_reply}
use Rattle.spelling.specs.Acknowledgement.{ack, nak}
use Rattle.line.specs.declared.meaning.Meaning.{Meaning}
use Rattle.line.specs.declared.meaning.Meaning.TheVariants.{Malformed, Code, Get, Put}
use Rattle.syntax.specs.declared.cause.Malformed as cause
use Rattle.line.specs.declared.answer.Answered.{Answered}

pub record Answer : Type 0 where
  pub reply : List ℕ
  pub values : List ℤ
  pub fault : Option cause.Malformed

-- a malformed line gets 99, with its cause and place, and any other code is a NAK without; neither changes a value. A get tells the present value in the form asked; a put is acknowledged and
-- sets one value
unfoldable pub act : List ℕ → List ℤ → Meaning → Answer
act t vs (Malformed k n) = record { reply = nak 99; values = vs; fault = Some (record { cause = k; place = n }) }
act t vs (Code n) = record { reply = nak n; values = vs; fault = None }
act t vs (Get p u) = record { reply = get_reply t p u (get_or vs (place p) (pos 0)); values = vs; fault = None }
act t vs (Put p x) = record { reply = ack; values = set vs (place p) x; fault = None }

-- the answer to a line: what it means in the room with these values is done
unfoldable pub answer : Room → List ℤ → List ℕ → Answer
answer r vs line = act r.table vs (meaning r vs line)

-- what answering a line leaves: the reply first in its buffer with every byte behind it as it was, its length and its fault as the answer a, and the values
pub data Answers (r : Room) (vs : List ℤ) (line buffer : List ℕ) (a : Answered) (vs' : List ℤ) (buffer' : List ℕ) : Type 0 where
  answers : (reply : Wrote buffer 0 (answer r vs line).reply a.sent buffer') → (fault : a.fault ≡ (answer r vs line).fault)
      → (values : vs' ≡ (answer r vs line).values) → Answers r vs line buffer a vs' buffer'
