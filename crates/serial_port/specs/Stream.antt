-- Serving a stream: what its calls consume is fed byte by byte, and the replies are put one after the other.
pub mod Calls
pub mod Consuming
pub mod Flow
pub mod Kept
pub mod Turns
pub mod Whole
use Rattle.std.specs.Prelude.{◌≡◌, cond, List, [], ◌∷◌, ◌++◌, ℕ, zero, suc, ◌+◌, ◌-◌, ◌≤◌, ℤ, ltb, length, take, drop}
use Rattle.text.specs.Written.{Wrote}
use Rattle.values.specs.Room.{Room}
use Rattle.syntax.specs.Shape.{line_limit}
use Rattle.serial_port.specs.Server.{control_space}
use Rattle.serial_port.specs.Port.{View, view}
use Rattle.serial_port.specs.Call.{step}
use Rattle.serial_port.specs.Refusal.{reply_limit}
use Rattle.serial_port.specs.Play.{Played, feed}
use Rattle.serial_port.specs.declared.port.Port.{Port}
use Rattle.serial_port.specs.declared.stream.Served.{Served}

-- the replies one after the other
unfoldable pub joined : List (List ℕ) → List ℕ
joined [] = []
joined (r ∷ rs) = r ++ joined rs

-- what the consumed bytes do, fed to the port p and the values vs
unfoldable pub flow : Room → List ℤ → Port → List ℕ → Played (List ℤ)
flow r vs p bs = feed (control_space r) (view p) vs bs

-- how many bytes are consumed by calls that are made one after the other while bytes are left and `room` has 64 bytes for a reply. A call that is given a byte consumes
-- one or more, so no more calls are made than there are bytes
unfoldable pub consumes : (calls : ℕ) → Room → List ℤ → View → (bs : List ℕ) → (room : ℕ) → ℕ
consumes zero r vs v bs room = 0
consumes (suc calls) r vs v [] room = 0
consumes (suc calls) r vs v (b ∷ bs) room =
    let s = step (control_space r) vs v (b ∷ bs) in
    cond (ltb room reply_limit) 0 (s.consumed + consumes calls r s.state s.port (drop s.consumed (b ∷ bs)) (room - length s.reply))

-- the promise of serving bs: it consumes so many bytes, which give the replies at the start of `out`, the values and the port; later bytes of `out` stay.
-- Left open, as for a call, are the held bytes of a port that has overrun, and what is stored past the held bytes
pub record Serves (r : Room) (vs : List ℤ) (p : Port) (bs out : List ℕ) (s : Served) (vs' : List ℤ) (out' : List ℕ) : Type 0 where
  pub consumed : s.consumed ≡ consumes (length bs) r vs (view p) bs (length out)
  pub within : s.consumed ≤ length bs
  pub room : s.sent ≤ length out
  pub replies : Wrote out 0 (joined (flow r vs p (take s.consumed bs)).replies) s.sent out'
  pub values : vs' ≡ (flow r vs p (take s.consumed bs)).state
  pub seen : view s.port ≡ (flow r vs p (take s.consumed bs)).port
  pub few : s.port.len ≤ line_limit
