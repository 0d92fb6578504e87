-- Playing a byte sequence: port calls, each with all bytes not yet consumed, until every byte is consumed.
pub mod Acknowledged
pub mod Calls
pub mod Feed
pub mod Kept
pub mod Laws
use Rattle.std.specs.Prelude.{Bool, true, false, cond, List, [], ◌∷◌, ℕ, zero, suc, eqb, ℤ, length, drop}
use Rattle.text.specs.Cut.{has}
use Rattle.values.specs.Room.{Room}
use Rattle.serial_port.specs.Server.{Server, control_space}
use Rattle.serial_port.specs.Port.{View, fresh, claim, join}
use Rattle.serial_port.specs.Call.{Step, step, finish}
use Rattle.serial_port.specs.Refusal.{call_number}

-- the replies in order, the state and the port at the end, and whether a call was refused
pub record Played (S : Type 0) : Type 0 where
  pub replies : List (List ℕ)
  pub state : S
  pub port : View
  pub refused : Bool

-- no call is left to make
unfoldable pub ended : {S : Type 0} → View → S → Played S
ended v s = record { replies = []; state = s; port = v; refused = false }

-- a call was refused: it consumed nothing, so the play does not end; the same where as many calls as there are bytes leave some over
unfoldable pub stopped : {S : Type 0} → View → S → Played S
stopped v s = record { replies = []; state = s; port = v; refused = true }

-- a reply, before those of the rest
unfoldable pub reply_first : {S : Type 0} → List ℕ → Played S → Played S
reply_first r p = record { replies = r ∷ p.replies; state = p.state; port = p.port; refused = p.refused }

-- a first call, of the given number; it gave a reply where its bytes had an 0D
unfoldable pub first : {S : Type 0} → (number : ℕ) → View → S → (replies : Bool) → Step S → Played S → Played S
first zero v s replies x rest = cond replies (reply_first x.reply rest) rest
first (suc n) v s replies x rest = stopped v s

-- call number `call` and those after it, at most `left` of them, from port v and state s on; a call is refused with a number other than 0
unfoldable pub play_from : {S : Type 0} → Server S → (refusal : ℕ → S → View → ℕ) → (call left : ℕ) → View → S → List ℕ → Played S
play_from server refusal call zero v s [] = ended v s
play_from server refusal call zero v s (b ∷ bs) = stopped v s
play_from server refusal call (suc left) v s [] = ended v s
play_from server refusal call (suc left) v s (b ∷ bs) =
    first (refusal call s v) v s (has 0x0D (b ∷ bs)) (step server s v (b ∷ bs))
    (play_from server refusal (suc call) left (step server s v (b ∷ bs)).port (step server s v (b ∷ bs)).state
    (drop (step server s v (b ∷ bs)).consumed (b ∷ bs)))

-- when a call of ControlSpace is refused; the reply buffer of each call has a length of its own
unfoldable pub refusal : Room → (reply_rooms : ℕ → ℕ) → (call : ℕ) → List ℤ → View → ℕ
refusal r reply_rooms call vs v = call_number r vs (reply_rooms call) (claim v)

-- playing to ControlSpace starts from a fresh port; each call consumes a byte or more, so that there are at most as many calls as bytes
unfoldable pub play : Room → (reply_rooms : ℕ → ℕ) → List ℤ → List ℕ → Played (List ℤ)
play r reply_rooms vs bs = play_from (control_space r) (refusal r reply_rooms) 0 (length bs) fresh vs bs

-- the same, byte by byte and without refusals: an 0D finishes the line, any other byte makes it longer
unfoldable pub feed : {S : Type 0} → Server S → View → S → List ℕ → Played S
feed server v s [] = ended v s
feed server v s (b ∷ bs) =
    cond (eqb b 0x0D)
    (reply_first (finish server s v).reply (feed server fresh (finish server s v).state bs))
    (feed server (join v (b ∷ [])) s bs)
