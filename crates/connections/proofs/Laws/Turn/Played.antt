-- Turns that serve one connection alone play its bytes as port calls do: what demand 3 says of calls that were made holds of them.
use Rattle.std.specs.Prelude.{◌≡◌, List, [], ◌∷◌, map, ℕ, ℤ, drop, Some}
use Rattle.values.specs.Room.{Room}
use Rattle.serial_port.specs.Call.{Answers}
use Rattle.serial_port.specs.Play.Calls as calls
use Rattle.serial_port.specs.Play.Calls.{Plays}
use Rattle.serial_port.specs.declared.port.Called.{Called}
use Rattle.serial_port.specs.declared.port.Port.{Port}
use Rattle.connections.specs.Connections.{port_at}
use Rattle.connections.specs.Turn.{Turns, Made, bytes_of, answer}
use Rattle.connections.proofs.Laws.Turn.Laws.{accepted, accepts, turn-call}

-- the port call that a turn made for connection c
unfoldable pub call_of : (c : ℕ) → Made → calls.Made
call_of c u = record { buffer = u.asked.buffer; answer = answer u.told (port_at u.row c); values = u.told.values; after = u.told.buffer }

-- turns that play bs to connection c alone, from port p and values vs on: none is refused and each serves c; each is given what is left of bs as c's waiting bytes, the port that
-- the turn before left there, and the values that it left; the last leaves nothing. The other connections may open and close between two turns
abbrev pub PlaysTo : Room → (c : ℕ) → List Made → Port → List ℤ → List ℕ → Type 0
PlaysTo r c [] p vs bs = bs ≡ []
PlaysTo r c (u ∷ us) p vs bs =
    Turns r u.asked u.told u.row × (u.told.number ≡ 0) × (u.told.served ≡ Some c)
    × (port_at u.asked.row c ≡ p) × (u.asked.values ≡ vs) × (bytes_of u.asked c ≡ bs)
    × PlaysTo r c us (port_at u.row c) u.told.values (drop u.told.consumed bs)

pub same-answers : (r : Room) (vs ws : List ℤ) (p q : Port) (bs cs buffer buffer' : List ℕ) (c : Called) (vs' : List ℤ) → q ≡ p → ws ≡ vs → cs ≡ bs
    → Answers r ws q cs buffer c vs' buffer' → Answers r vs p bs buffer c vs' buffer'
same-answers r vs ws p q bs cs buffer buffer' c vs' e f g a = rw (e, f, g) at a

-- their port calls play bs
pub turns_play : (r : Room) (c : ℕ) (us : List Made) (p : Port) (vs : List ℤ) (bs : List ℕ) → PlaysTo r c us p vs bs → Plays r (map (call_of c) us) p vs bs
unfolding call_of answer
turns_play r c [] p vs bs h = h
turns_play r c (u ∷ us) p vs bs h =
    let call = turn-call h.0 c h.2 in (
      (accepted r u.asked (accepts h.0 h.1)).room,
      same-answers r vs u.asked.values p (port_at u.asked.row c) bs (bytes_of u.asked c) u.asked.buffer u.told.buffer
          (answer u.told (port_at u.row c)) u.told.values h.3 h.4 h.5 call,
      turns_play r c us (port_at u.row c) u.told.values (drop u.told.consumed bs) h.6,
    )
