-- A turn: the next connection that waits is served with one port call on its waiting bytes.
pub mod Number
pub mod Picking
pub mod Single
use Rattle.std.specs.Prelude.{◌≡◌, Bool, true, cond, ◌&&◌, List, [], ◌∷◌, ℕ, zero, suc, eqb, leb, ℤ, length, set, None, Option, Some}
use Rattle.text.specs.Every.{every}
use Rattle.room.specs.Refusal.{first_refusal}
use Rattle.room.specs.Table.{table_number}
use Rattle.values.specs.Room.{Room}
use Rattle.values.specs.Values.{values_number}
use Rattle.syntax.specs.Shape.{line_limit}
use Rattle.syntax.specs.declared.cause.Malformed.{Malformed}
use Rattle.serial_port.specs.Call as port
use Rattle.serial_port.specs.Call.{call, Answers}
use Rattle.serial_port.specs.Refusal.{reply_limit, reply_number}
use Rattle.serial_port.specs.declared.port.Called.{Called}
use Rattle.serial_port.specs.declared.port.Port.{Port}
use Rattle.connections.specs.Connections.{port_at, flags}
use Rattle.connections.specs.Parts.{connection_count, counts_right, waiting_of}
use Rattle.connections.specs.Round.{waits_by, next}
use Rattle.connections.specs.declared.connection.Connection.{Connection}
use Rattle.connections.specs.declared.turning.Turned.{Turned}

-- what a turn is given besides the table: the row and the last served, the counts and the bytes that they divide, the values and the reply buffer
pub record Asked : Type 0 where
  pub row : List Connection
  pub last : ℕ
  pub counts : List ℕ
  pub given : List ℕ
  pub values : List ℤ
  pub buffer : List ℕ

-- its parts put together
abbrev pub asked : (row : List Connection) → (last : ℕ) → (counts given : List ℕ) → List ℤ → (buffer : List ℕ) → Asked
asked row last counts given vs buffer = record { row = row; last = last; counts = counts; given = given; values = vs; buffer = buffer }

-- 10 the row or the counts have not the length 32, the counts do not add up to the length of the bytes, or the last served is over 31
unfoldable pub row_number : Asked → ℕ
row_number a = cond (eqb (length a.row) connection_count && counts_right a.counts (length a.given) && leb a.last 31) 0 10

-- a port that claims at most 64 bytes, overrun or not
unfoldable pub claims_few : Connection → Bool
claims_few c = leb c.port.len line_limit

-- 4 one of all the ports claims more, be its connection open or closed
unfoldable pub ports_number : List Connection → ℕ
ports_number row = cond (every claims_few row) 0 4

-- the first that applies in the turn's order, 0 where none does: 10, then 1 the table is not sound, 2 the values are wrong, 3 the reply buffer has under 64 bytes, 4.
-- All are tested also where nobody waits
unfoldable pub turn_number : Room → Asked → ℕ
turn_number r a =
    first_refusal (row_number a ∷ table_number r.table ∷ values_number r a.values ∷ reply_number reply_limit (length a.buffer) ∷ ports_number a.row ∷ [])

-- whose turn it is
unfoldable pub chosen : Asked → Option ℕ
chosen a = next a.last (waits_by (flags a.row) a.counts)

-- the bytes that wait for connection i
unfoldable pub bytes_of : Asked → (i : ℕ) → List ℕ
bytes_of a i = waiting_of a.counts a.given i

-- what a turn tells, and what it leaves as the values and in the reply buffer
pub record Told : Type 0 where
  pub number : ℕ
  pub served : Option ℕ
  pub consumed : ℕ
  pub sent : ℕ
  pub fault : Option Malformed
  pub values : List ℤ
  pub buffer : List ℕ

-- the same of a turn's answer, with the values and the reply buffer as they are afterwards
unfoldable pub tells : Turned → List ℤ → (buffer : List ℕ) → Told
tells t vs buffer = record { number = t.number; served = t.served; consumed = t.consumed; sent = t.sent; fault = t.fault; values = vs; buffer = buffer }

-- nobody is served: it counts zero, tells no fault and changes nothing
unfoldable pub idle : (number : ℕ) → Asked → Told
idle number a = record { number = number; served = None; consumed = 0; sent = 0; fault = None; values = a.values; buffer = a.buffer }

-- connection i is served: what its port call tells
unfoldable pub busy : (i : ℕ) → port.Told (List ℤ) → Told
busy i t =
    record { number = t.number; served = Some i; consumed = t.consumed; sent = t.sent; fault = t.fault; values = t.state; buffer = t.buffer }

-- by the number, and by whose turn it is
unfoldable pub tell : Room → Asked → (number : ℕ) → Option ℕ → Told
tell r a zero None = idle 0 a
tell r a zero (Some i) = busy i (call r a.values (port_at a.row i) (bytes_of a i) a.buffer)
tell r a (suc n) s = idle (suc n) a

-- the whole turn
unfoldable pub turn : Room → Asked → Told
turn r a = tell r a (turn_number r a) (chosen a)

-- the answer of a port call that a turn made, with the port p that it handed back
unfoldable pub answer : Told → Port → Called
answer t p = record { port = p; consumed = t.consumed; sent = t.sent; fault = t.fault; number = t.number }

-- connection i was served: it stays open, and has the port that its call handed back; the others are as they were
pub data PutBack (r : Room) (a : Asked) (i : ℕ) (t : Told) (row' : List Connection) : Type 0 where
  put_back : (c : Connection) → (placed : row' ≡ set a.row i c) → (stays : c.is_open ≡ true)
      → (answers : Answers r a.values (port_at a.row i) (bytes_of a i) a.buffer (answer t c.port) t.values t.buffer)
      → PutBack r a i t row'

-- the row afterwards: a refusal, and a turn with nobody waiting, leave it as it was
abbrev pub Left : Room → Asked → (number : ℕ) → Option ℕ → Told → (row' : List Connection) → Type 0
Left r a zero None t row' = row' ≡ a.row
Left r a zero (Some i) t row' = PutBack r a i t row'
Left r a (suc n) s t row' = row' ≡ a.row

-- the promise of a turn: what it tells, and the row that it leaves
pub data Turns (r : Room) (a : Asked) (t : Told) (row' : List Connection) : Type 0 where
  turns : (told : t ≡ turn r a) → (left : Left r a (turn_number r a) (chosen a) t row') → Turns r a t row'

-- a turn that was made: what it was given, what it told, and the row that it left
pub record Made : Type 0 where
  pub asked : Asked
  pub told : Told
  pub row : List Connection
