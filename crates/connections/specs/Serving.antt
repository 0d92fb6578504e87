-- Serving one connection: one call of its port.
pub mod Rules
use Rattle.std.specs.Prelude.{◌≡◌, List, ℕ, ℤ}
use Rattle.values.specs.Room.{Room}
use Rattle.serial_port.specs.Call.{Answers}
use Rattle.serial_port.specs.declared.port.Called.{Called}
use Rattle.serial_port.specs.declared.port.Port.{Port}
use Rattle.connections.specs.declared.connection.Connection.{Connection}
use Rattle.connections.specs.declared.serving.PortAnswer.{PortAnswer}
use Rattle.connections.specs.declared.serving.ServedOne.{ServedOne}

-- the answer of a port call, with the port that it handed back
abbrev pub called : PortAnswer → Port → Called
called t p = record { port = p; consumed = t.consumed; sent = t.sent; fault = t.fault; number = t.number }

-- the promise of serving the connection c: its port was called on the bytes bs, and it is open or closed as before
pub data Serves (r : Room) (c : Connection) (bs : List ℕ) (vs : List ℤ) (buffer : List ℕ) (d : ServedOne) (vs' : List ℤ) (buffer' : List ℕ) : Type 0 where
  serves : (stays : d.connection.is_open ≡ c.is_open) → (answers : Answers r vs c.port bs buffer (called d.answer d.connection.port) vs' buffer')
      → Serves r c bs vs buffer d vs' buffer'
