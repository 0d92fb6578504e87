-- A row of connections, each open or closed with its own port: opening and closing.
pub mod Laws
pub mod Number
pub mod Switching
use Rattle.std.specs.Prelude.{◌≡◌, Bool, true, false, cond, not, ◌&&◌, List, map, ℕ, zero, suc, eqb, leb, length, get_or, replicate, set}
use Rattle.serial_port.specs.Play.Calls.{AsFresh}
use Rattle.serial_port.specs.declared.port.Port.{Port}
use Rattle.connections.specs.Parts.{connection_count}
use Rattle.connections.specs.declared.connection.Connection.{Connection}
use Rattle.connections.specs.declared.connection.Fresh.{Fresh}
use Rattle.connections.specs.declared.connection.Switched.{Switched}

-- a closed connection with a port that holds nothing; it stands for what is past the end of a row
abbrev pub closed : Connection
closed = record { is_open = false; port = record { held = replicate 64 0; len = 0; overrun = false } }

-- the port of connection i
unfoldable pub port_at : List Connection → (i : ℕ) → Port
port_at row i = (get_or row i closed).port

-- which connections are open
unfoldable pub flags : List Connection → List Bool
flags row = map (λ (c : Connection). c.is_open) row

unfoldable pub open_at : List Connection → (i : ℕ) → Bool
open_at row i = get_or (flags row) i false

-- a change that is one: an open connection is not opened, a closed one not closed
unfoldable pub changes : (want : Bool) → (now : Bool) → Bool
changes true now = not now
changes false now = now

-- a row of 32 connections, and a number that is not over 31
unfoldable pub is_place : (count : ℕ) → (i : ℕ) → Bool
is_place count i = eqb count connection_count && leb i 31

-- 10 the row has not 32 connections, the number is over 31, or the connection is open (closed) already
unfoldable pub switch_number : (want : Bool) → List Connection → (i : ℕ) → ℕ
switch_number want row i = cond (is_place (length row) i && changes want (open_at row i)) 0 10

-- a connection that was opened or closed: its port counts as a fresh one, whatever it held before
pub record Anew (want : Bool) (c : Connection) : Type 0 where
  pub switched : c.is_open ≡ want
  pub port : AsFresh c.port

-- the fresh row: 32 connections, all closed, each with a port that counts as a fresh one; the last served is then 31
pub data FreshRow (f : Fresh) : Type 0 where
  fresh-row : (c : Connection) → Anew false c → f.row ≡ replicate connection_count c → f.last ≡ 31 → FreshRow f

-- the promise of opening or closing one connection by itself
pub data SwitchesOne (want : Bool) (c : Connection) (d : Switched) : Type 0 where
  kept : changes want c.is_open ≡ false → d.number ≡ 10 → d.connection ≡ c → SwitchesOne want c d
  anew : changes want c.is_open ≡ true → d.number ≡ 0 → Anew want d.connection → SwitchesOne want c d

-- the row afterwards: the connection i is anew and the others are as they were; a refusal changes nothing
pub data Left (want : Bool) (row : List Connection) (i : ℕ) : (number : ℕ) → (row' : List Connection) → Type 0 where
  refused : (n : ℕ) → Left want row i (suc n) row
  made : (c : Connection) → Anew want c → Left want row i 0 (set row i c)

-- the promise of opening (want is true) and closing (want is false)
pub data Switches (want : Bool) (row : List Connection) (i number : ℕ) (row' : List Connection) : Type 0 where
  switches : (told : number ≡ switch_number want row i) → (left : Left want row i (switch_number want row i) row') → Switches want row i number row'
