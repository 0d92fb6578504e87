-- The port call for C: the port is 66 lent bytes, and four numbers are lent for what the call tells.
pub mod Bytes
pub mod Calling
pub mod Laws
use Rattle.std.specs.Prelude.{◌≡◌, not, List, [], ◌∷◌, ℕ, zero, suc, ◌≤◌, eqb, ℤ, length, get_or, drop}
use Rattle.syntax.specs.Shape.{line_limit}
use Rattle.values.specs.Room.{Room}
use Rattle.line.specs.Fault.{fault_numbers}
use Rattle.serial_port.specs.Port.{View, view}
use Rattle.serial_port.specs.Call.{Told, call, step}
use Rattle.serial_port.specs.Refusal.{call_number}
use Rattle.serial_port.specs.Server.{control_space}
use Rattle.serial_port.specs.declared.port.Port.{Port}

-- the port that 66 bytes say: how many bytes it claims to hold, overrun (0 no, any other byte yes), and the held bytes with whatever follows them
unfoldable pub port_of : List ℕ → Port
port_of l = record { held = drop 2 l; len = get_or l 0 0; overrun = not (eqb (get_or l 1 0) 0) }

-- the number, and what the call leaves in the counts, in the values and in the reply buffer
pub record PortAnswer : Type 0 where
  pub number : ℕ
  pub told : List ℕ
  pub values : List ℤ
  pub reply : List ℕ

unfoldable pub port_tells : (number : ℕ) → (told : List ℕ) → List ℤ → (reply : List ℕ) → PortAnswer
port_tells number told vs reply = record { number = number; told = told; values = vs; reply = reply }

-- the four numbers: bytes consumed, the reply's length, and the cause and the place of a 99
unfoldable pub counted : Told (List ℤ) → PortAnswer
counted c = port_tells c.number (c.consumed ∷ c.sent ∷ fault_numbers c.fault) c.state c.buffer

-- the whole call but for the port's bytes; a refusal counts zero and changes nothing else
unfoldable pub port_answer : Room → List ℤ → (port given reply : List ℕ) → PortAnswer
port_answer r vs port given reply = counted (call r vs (port_of port) given reply)

-- the bytes of a port that is seen as v: it claims at most 64, and overrun is 0 or 1. Left open, as the rules leave them, are the held bytes of a port that
-- has overrun, and what is stored past the held bytes
pub record Stores (v : View) (port : List ℕ) : Type 0 where
  pub seen : view (port_of port) ≡ v
  pub few : get_or port 0 0 ≤ line_limit
  pub flag : get_or port 1 0 ≤ 1

-- the port's bytes after a call: as they were where it is refused or given no bytes, an overrun byte of 7 too; else those of a port that is seen as v
abbrev pub Left : (number : ℕ) → (given port : List ℕ) → View → (port' : List ℕ) → Type 0
Left (suc n) given port v port' = port' ≡ port
Left zero [] port v port' = port' ≡ port
Left zero (b ∷ given) port v port' = Stores v port'

-- the promise of the port call: its answer, and the bytes of the port
pub data PortCalled (r : Room) (vs : List ℤ) (port given reply : List ℕ) (g : ℕ) (vs' : List ℤ) (port' reply' told' : List ℕ) : Type 0 where
  called : (answers : port_tells g told' vs' reply' ≡ port_answer r vs port given reply)
      → (left : Left (call_number r vs (length reply) (port_of port).len) given port (step (control_space r) vs (view (port_of port)) given).port port')
      → PortCalled r vs port given reply g vs' port' reply' told'
