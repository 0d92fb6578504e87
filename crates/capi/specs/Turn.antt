-- A turn for C: the row is 2,144 lent bytes, and six numbers are lent for what the turn tells.
pub mod Laws
pub mod Turning
use Rattle.std.specs.Prelude.{◌≡◌, List, [], ◌∷◌, ◌++◌, ℕ, ◌*◌, ℤ, length, None, Option, Some}
use Rattle.std.proofs.lemmas.List.Edits.{sets}
use Rattle.values.specs.Room.{Room}
use Rattle.line.specs.Fault.{fault_numbers}
use Rattle.serial_port.specs.Call.{step}
use Rattle.serial_port.specs.Port.{View, view}
use Rattle.serial_port.specs.Server.{control_space}
use Rattle.connections.specs.Connections.{port_at}
use Rattle.connections.specs.Turn.{Asked, Told, asked, bytes_of, turn}
use Rattle.capi.specs.Connections.{row_of}
use Rattle.capi.specs.Port.{PortAnswer, Stores, port_tells}

-- what the turn is asked: the row is the one that the bytes say
abbrev pub asked_of : (row : List ℕ) → (last : ℕ) → (counts given : List ℕ) → List ℤ → (reply : List ℕ) → Asked
asked_of row last counts given vs reply = asked (row_of row) last counts given vs reply

-- whom it served, in two numbers: 1 and which one, or 0 and 0
unfoldable pub served_numbers : Option ℕ → List ℕ
served_numbers None = 0 ∷ 0 ∷ []
served_numbers (Some i) = 1 ∷ i ∷ []

-- the six numbers: these two, bytes consumed, the reply's length, and the cause and the place of a 99
unfoldable pub told_numbers : Told → List ℕ
told_numbers t = served_numbers t.served ++ (t.consumed ∷ t.sent ∷ fault_numbers t.fault)

unfoldable pub counted : Told → PortAnswer
counted t = port_tells t.number (told_numbers t) t.values t.buffer

-- the whole turn but for the row's bytes; a refusal, and a turn with nobody waiting, count zero and change nothing else
unfoldable pub turn_answer : Room → Asked → PortAnswer
turn_answer r a = counted (turn r a)

-- connection i was served: 1 is stored for open, and 66 bytes of a port that is seen as v. All other bytes of the row stay
pub data PutBack (row : List ℕ) (i : ℕ) (v : View) (row' : List ℕ) : Type 0 where
  put_back : (port : List ℕ) → (size : length port ≡ 66) → (stores : Stores v port) → (placed : row' ≡ sets row (67 * i) (1 ∷ port)) → PutBack row i v row'

-- the row's bytes after a turn: as they were where nobody was served, be it that the turn was refused or that nobody waits
abbrev pub Left : Room → Asked → Option ℕ → (row row' : List ℕ) → Type 0
Left r a None row row' = row' ≡ row
Left r a (Some i) row row' = PutBack row i (step (control_space r) a.values (view (port_at a.row i)) (bytes_of a i)).port row'

-- the promise of a turn: its answer, and the bytes of the row
pub data TurnCalled (r : Room) (vs : List ℤ) (row : List ℕ) (last : ℕ) (given counts reply : List ℕ) (g : ℕ) (vs' : List ℤ) (row' reply' told' : List ℕ) : Type 0 where
  called : (answers : port_tells g told' vs' reply' ≡ turn_answer r (asked_of row last counts given vs reply))
      → (left : Left r (asked_of row last counts given vs reply) (turn r (asked_of row last counts given vs reply)).served row row')
      → TurnCalled r vs row last given counts reply g vs' row' reply' told'
