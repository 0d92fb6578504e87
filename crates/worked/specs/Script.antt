-- A script: lines, each with its 0D, and behind each the reply that it must get. All go through one port, call after call.
pub mod Comparing
pub mod Cutting
pub mod Laws
pub mod Playing
pub mod Starting
pub mod Turning
use Rattle.std.specs.Prelude.{◌≡◌, Bool, cond, List, [], ◌∷◌, ℕ, zero, suc, ◌+◌, ◌≤◌, ℤ, length, take, drop}
use Rattle.text.specs.Cut.{index_of}
use Rattle.room.specs.Label.{same}
use Rattle.room.specs.Table.{sound}
use Rattle.values.specs.Room.{Room, room_of}
use Rattle.values.specs.Starts.{starts}
use Rattle.serial_port.specs.Server.{Server, control_space}
use Rattle.serial_port.specs.Call.{step}
use Rattle.serial_port.specs.Port.{View, fresh, view}
use Rattle.serial_port.specs.declared.port.Port.{Port}
use Rattle.worked.specs.declared.play.Played.{Played}
use Rattle.worked.specs.declared.play.Tally.{Tally}

-- the first line, without its 0D
unfoldable pub first_line : List ℕ → List ℕ
first_line bs = take (index_of 0x0D bs) bs

-- the bytes through the first 0D: all, where there is none
unfoldable pub through : List ℕ → List ℕ
through bs = take (suc (index_of 0x0D bs)) bs

-- what a line comes to: the port and the values after it, how many bytes it has with the reply behind it, and whether it gets that reply
pub record Turn : Type 0 where
  pub port : View
  pub values : List ℤ
  pub passed : ℕ
  pub right : Bool

-- the first line of a script is what a call of the port consumes; behind it, through the next 0D, stands the reply that the call must give
unfoldable pub turn : Server (List ℤ) → List ℤ → View → (script : List ℕ) → Turn
turn server vs v script =
    let s = step server vs v script in
    let reply = through (drop s.consumed script) in
    record { port = s.port; values = s.state; passed = s.consumed + length reply; right = same s.reply reply }

-- a script played up to the first wrong answer: how many lines get the reply that it says, where it goes on behind them, and the values afterwards
pub record Outcome : Type 0 where
  pub right : ℕ
  pub at : ℕ
  pub values : List ℤ

-- the rest of a script from `at` on, behind `right` lines. A line has a byte or more, so there are no more lines than bytes
unfoldable pub play_from : (lines : ℕ) → Server (List ℤ) → List ℤ → View → (right at : ℕ) → (rest : List ℕ) → Outcome
play_from zero server vs v right at rest = record { right = right; at = at; values = vs }
play_from (suc lines) server vs v right at [] = record { right = right; at = at; values = vs }
play_from (suc lines) server vs v right at (b ∷ bs) =
    let s = turn server vs v (b ∷ bs) in
    cond s.right
    (play_from lines server s.values s.port (right + 1) (at + s.passed) (drop s.passed (b ∷ bs)))
    (record { right = right; at = at; values = s.values })

-- the whole script, from a fresh port on
unfoldable pub outcome : Room → List ℤ → (script : List ℕ) → Outcome
outcome r vs script = play_from (length script) (control_space r) vs fresh 0 0 script

-- its two counts
unfoldable pub counted : Outcome → Tally
counted o = record { right = o.right; at = o.at }

-- the tally of a script, from the table's start values on; on a table that is not sound no line is played
unfoldable pub tally : (table script : List ℕ) → Tally
tally t script = cond (sound t) (counted (outcome (room_of t) (starts t) script)) (record { right = 0; at = 0 })

-- what the code tells of a line, and of a script, with the values as they are afterwards
unfoldable pub turned : Played → List ℤ → Turn
turned r vs = record { port = view r.port; values = vs; passed = r.passed; right = r.right }

unfoldable pub told : Tally → List ℤ → Outcome
told r vs = record { right = r.right; at = r.at; values = vs }

-- the promise of playing a line; left open, as for a call of the port, is what the port stores besides what it is seen as
pub data Plays (r : Room) (vs : List ℤ) (p : Port) (script : List ℕ) (g : Played) (vs' : List ℤ) : Type 0 where
  plays : (line : turned g vs' ≡ turn (control_space r) vs (view p) script) → (few : g.port.len ≤ 64) → Plays r vs p script g vs'
