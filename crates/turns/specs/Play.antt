-- What the program does with a command.
pub mod Counting
pub mod Playing
pub mod Telling
use Rattle.std.specs.Prelude.{◌≡◌, Bool, List, [], ◌∷◌, ℕ, ◌%◌, ℤ, drop, take, None, Option, Some}
use Rattle.syntax.specs.Cause.{cause_number}
use Rattle.syntax.specs.declared.cause.Malformed.{Malformed}
use Rattle.values.specs.Room.{Room}
use Rattle.connections.specs.Connections.{Switches}
use Rattle.connections.specs.Round.{last_after}
use Rattle.connections.specs.Turn.{Turns, asked, tells}
use Rattle.connections.specs.declared.connection.Connection.{Connection}
use Rattle.connections.specs.declared.turning.Turned.{Turned}
use Rattle.turns.specs.Command.{command_of}
use Rattle.turns.specs.declared.command.Command.TheVariants.{Switch, Turn}
use Rattle.turns.specs.declared.play.Played.{Played}

-- the cause of a 99 and its place, zeros where there is none; a place by its last byte
unfoldable pub fault_bytes : Option Malformed → List ℕ
fault_bytes None = 0 ∷ 0 ∷ []
fault_bytes (Some m) = cause_number m.cause ∷ m.place % 256 ∷ []

-- 1 and the connection that was served, or zeros; then the others
unfoldable pub served_bytes : Option ℕ → List ℕ → List ℕ
served_bytes None bs = 0 ∷ 0 ∷ bs
served_bytes (Some i) bs = 1 ∷ i % 256 ∷ bs

-- what is written of a turn before its reply: its number, whom it served, how many bytes it consumed and sent, and the fault; numbers by their last byte
unfoldable pub told_bytes : Turned → List ℕ
told_bytes t = t.number ∷ served_bytes t.served (t.consumed % 256 ∷ t.sent % 256 ∷ fault_bytes t.fault)

-- no command: nothing is to be written
unfoldable pub unplayed : List Connection → (last : ℕ) → Played
unplayed row last = record { row = row; last = last; told = 0 ∷ 0 ∷ 0 ∷ 0 ∷ 0 ∷ 0 ∷ 0 ∷ []; count = 0; sent = 0 }

-- opened or closed: its number is to be written
unfoldable pub switched_to : List Connection → (last number : ℕ) → Played
switched_to row last number = record { row = row; last = last; told = number ∷ 0 ∷ 0 ∷ 0 ∷ 0 ∷ 0 ∷ 0 ∷ []; count = 1; sent = 0 }

-- a turn: seven bytes and the reply are to be written, and the last served moves
unfoldable pub turned_to : List Connection → (last : ℕ) → Turned → Played
turned_to row last t = record { row = row; last = last_after last t.served; told = told_bytes t; count = 7; sent = t.sent }

-- the promise of playing a command: of a turn the 32 bytes behind the letter are the counts, and what follows is what waits
pub data Plays (r : Room) (row : List Connection) (last : ℕ) (command : List ℕ) (vs : List ℤ) (buffer : List ℕ) (p : Played) (vs' : List ℤ) (buffer' : List ℕ) : Type 0 where
  plays_nothing : command_of command ≡ None → p ≡ unplayed row last → vs' ≡ vs → buffer' ≡ buffer → Plays r row last command vs buffer p vs' buffer'
  plays_switch : (want : Bool) (i number : ℕ) → command_of command ≡ Some (Switch want i) → Switches want row i number p.row → p ≡ switched_to p.row last number → vs' ≡ vs → buffer' ≡ buffer
      → Plays r row last command vs buffer p vs' buffer'
  plays_turn : (t : Turned) → command_of command ≡ Some Turn → Turns r (asked row last (take 32 (drop 1 command)) (drop 33 command) vs buffer) (tells t vs' buffer') p.row
      → p ≡ turned_to p.row last t → Plays r row last command vs buffer p vs' buffer'
