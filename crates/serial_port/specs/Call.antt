-- One call of a port: what it consumes, replies and changes, and when it refuses.
pub mod Accepted
pub mod Faults
pub mod Finishing
pub mod Laws
pub mod OneLine
pub mod Rules
pub mod Serving
pub mod Telling
use Rattle.std.specs.Prelude.{◌≡◌, cond, List, [], ℕ, zero, suc, ◌≤◌, ℤ, length, None, Option}
use Rattle.std.proofs.lemmas.List.Edits.{sets}
use Rattle.values.specs.Room.{Room}
use Rattle.syntax.specs.Shape.{line_limit}
use Rattle.syntax.specs.declared.cause.Malformed.{Malformed}
use Rattle.serial_port.specs.Server.{Reply, Server, control_space}
use Rattle.serial_port.specs.Refusal.{call_number}
use Rattle.serial_port.specs.Port.{View, held, over, view, fresh, Gather, gather}
use Rattle.serial_port.specs.declared.port.Port.{Port}
use Rattle.serial_port.specs.declared.port.Called.{Called}

-- what an accepted call does; the reply is empty, and no fault is told, where no line was finished
pub record Step (S : Type 0) : Type 0 where
  pub port : View
  pub consumed : ℕ
  pub reply : List ℕ
  pub fault : Option Malformed
  pub state : S

-- the one reply to a finished line
unfoldable pub finish : {S : Type 0} → Server S → S → View → Reply S
finish server s (held l) = server.line s l
finish server s over = server.overrun s

-- a finished line: the port is fresh again
unfoldable pub replied : {S : Type 0} → (consumed : ℕ) → Reply S → Step S
replied consumed a = record { port = fresh; consumed = consumed; reply = a.reply; fault = a.fault; state = a.state }

-- without 0D there is no reply, and no fault
unfoldable pub waiting : {S : Type 0} → S → (consumed : ℕ) → View → Step S
waiting s consumed v = record { port = v; consumed = consumed; reply = []; fault = None; state = s }

-- what was gathered is served where it is a finished line, and held where it is not
unfoldable pub served : {S : Type 0} → Server S → S → Gather → Step S
served server s g = cond g.finished (replied g.consumed (finish server s g.line)) (waiting s g.consumed g.line)

-- what a call does with the given bytes: it takes those through the first 0D, or all where there is none
unfoldable pub step : {S : Type 0} → Server S → S → View → List ℕ → Step S
step server s v bs = served server s (gather v bs)

-- what a call tells, and what it leaves as the state and in the reply buffer
pub record Told (S : Type 0) : Type 0 where
  pub number : ℕ
  pub consumed : ℕ
  pub sent : ℕ
  pub fault : Option Malformed
  pub state : S
  pub buffer : List ℕ

-- the reply stands first in its buffer, and what is behind it stays; a refusal counts zero, tells no fault and changes nothing
unfoldable pub tell : {S : Type 0} → (number : ℕ) → S → (buffer : List ℕ) → Step S → Told S
tell zero s buffer x =
    record { number = 0; consumed = x.consumed; sent = length x.reply; fault = x.fault; state = x.state; buffer = sets buffer 0 x.reply }
tell (suc n) s buffer x = record { number = suc n; consumed = 0; sent = 0; fault = None; state = s; buffer = buffer }

-- the port q that a call hands back: the given one on a refusal, else one that is seen as v and claims at most 64 bytes. Left open, as the rules leave it, are the held bytes
-- of a port that has overrun, and what is stored past the held bytes
abbrev pub Handed : (number : ℕ) → Port → View → Port → Type 0
Handed zero p v q = (view q ≡ v) × (q.len ≤ line_limit)
Handed (suc n) p v q = q ≡ p

-- what the answer c tells, with the state and the reply buffer as they are afterwards
unfoldable pub tells : {S : Type 0} → Called → (state : S) → (buffer : List ℕ) → Told S
tells c s buffer = record { number = c.number; consumed = c.consumed; sent = c.sent; fault = c.fault; state = s; buffer = buffer }

-- the promise of every port call, whatever serves its lines and whatever number it is refused with (0 where it is not): what it tells, and the port that it hands back
pub data Takes {S : Type 0} (server : Server S) (number : ℕ) (s : S) (p : Port) (bs buffer : List ℕ) (c : Called) (s' : S) (buffer' : List ℕ) : Type 0 where
  takes : (told : tells c s' buffer' ≡ tell number s buffer (step server s (view p) bs))
      → (handed : Handed number p (step server s (view p) bs).port c.port)
      → Takes server number s p bs buffer c s' buffer'

-- what ControlSpace's call tells, in the room r
unfoldable pub call : Room → List ℤ → Port → List ℕ → (buffer : List ℕ) → Told (List ℤ)
call r vs p bs buffer = tell (call_number r vs (length buffer) p.len) vs buffer (step (control_space r) vs (view p) bs)

-- the promise of ControlSpace's call: it serves the lines in the room r, and refuses with the number of `call_number`
abbrev pub Answers : Room → List ℤ → Port → (bs buffer : List ℕ) → Called → List ℤ → (buffer' : List ℕ) → Type 0
Answers r vs p bs buffer c vs' buffer' = Takes (control_space r) (call_number r vs (length buffer) p.len) vs p bs buffer c vs' buffer'
