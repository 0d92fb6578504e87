-- What the program does with the bytes that it reads: it feeds them to the port and the values, and puts the replies into `out`.
pub mod Answering
pub mod Reads
pub mod Start
use Rattle.std.specs.Prelude.{◌≡◌, true, List, ℕ, ◌≤◌, ℤ, length, take, Ok, Err}
use Rattle.std.specs.declared.result.Result.{Result}
use Rattle.text.specs.Written.{Wrote}
use Rattle.values.specs.Room.{Room}
use Rattle.values.specs.Values.{values_sound}
use Rattle.serial_port.specs.Port.{view}
use Rattle.serial_port.specs.Stream.{joined, flow}
use Rattle.serial_port.specs.declared.port.Port.{Port}
use Rattle.port.specs.declared.bytes.Answered.{Answered}
use Rattle.port.specs.declared.standard_input.Turn.{Turn}
use Rattle.port.specs.declared.standard_input.Ended.{Ended}
use Rattle.port.specs.declared.standard_input.Ended.TheVariants.{Nothing, Unwritten}

-- the bytes bs of a read are fed, all of them, to the port p and the values vs: their replies, one after the other, are the first bytes of `out`,
-- and later ones stay. Left open, as for a call, are the held bytes of a port that has overrun, and what is stored past the held bytes
pub data Answers (r : Room) (vs : List ℤ) (p : Port) (bs out : List ℕ) (a : Answered) (vs' : List ℤ) (out' : List ℕ) : Type 0 where
  answers : (replies : Wrote out 0 (joined (flow r vs p bs).replies) a.sent out') → (room : a.sent ≤ length out)
      → (values : vs' ≡ (flow r vs p bs).state) → (seen : view a.port ≡ (flow r vs p bs).port) → (few : a.port.len ≤ 64)
      → Answers r vs p bs out a vs' out'

-- how many bytes came of a read
unfoldable pub bytes_of : Result ℕ Ended → ℕ
bytes_of (Ok n) = n
bytes_of (Err Nothing) = 0
bytes_of (Err (Unwritten n)) = n

-- one read: nothing came, and all is as it was; or one byte or more came, the first of the input buffer, and were answered, whether or not their
-- replies were written. How many come, and which, is outside the proof
pub data AnswersRead (r : Room) (vs : List ℤ) (p : Port) (input out : List ℕ) (g : Turn) (vs' : List ℤ) (out' : List ℕ) : Type 0 where
  nothing : (came : g.came ≡ Err Nothing) → (port : g.port ≡ p) → (values : vs' ≡ vs) → (replies : out' ≡ out)
      → AnswersRead r vs p input out g vs' out'
  something : (sent : ℕ) → (some : 1 ≤ bytes_of g.came) → (within : bytes_of g.came ≤ length input)
      → Answers r vs p (take (bytes_of g.came) input) out (record { port = g.port; sent = sent }) vs' out'
      → AnswersRead r vs p input out g vs' out'

-- read after read: the port and the values at the end are those of some bytes bs, and the values are right. Nothing came of the last read, or its
-- replies could not be written, or else there were 2^64 bytes or more
pub data AnswersAll (r : Room) (vs : List ℤ) (p : Port) (g : Turn) (vs' : List ℤ) : Type 0 where
  answers_all : (bs : List ℕ) → (values : vs' ≡ (flow r vs p bs).state) → (right : values_sound r vs' ≡ true)
      → (seen : view g.port ≡ (flow r vs p bs).port) → (few : g.port.len ≤ 64)
      → (ended : (n : ℕ) → g.came ≡ Ok n → 18446744073709551616 ≤ length bs) → AnswersAll r vs p g vs'
