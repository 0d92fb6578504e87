-- A turn for the connection that was taken out of the row, by what was noted of the others.
use Rattle.std.specs.Prelude.{◌≡◌, Bool, List, ℕ, ℤ, length, get_or, set, None, Some}
use Rattle.values.specs.Room.{Room}
use Rattle.connections.specs.Connections.{closed}
use Rattle.connections.specs.Parts.{waiting_of}
use Rattle.connections.specs.Round.{waits_by, next}
use Rattle.connections.specs.Serving.{Serves}
use Rattle.connections.specs.Turn.Number.{number_by}
use Rattle.connections.specs.declared.connection.Connection.{Connection}
use Rattle.connections.specs.declared.serving.PortAnswer.{PortAnswer}
use Rattle.connections.specs.declared.survey.Survey.{Survey}
use Rattle.connections.specs.declared.turning.Turned.{Turned}
use Rattle.connections.specs.declared.turning.TurnedOne.{TurnedOne}

-- nobody is served
abbrev pub still : (number : ℕ) → Turned
still number = record { served = None; consumed = 0; sent = 0; fault = None; number = number }

-- connection i is served, and its port call answered t
abbrev pub busy_with : (i : ℕ) → PortAnswer → Turned
busy_with i t = record { served = Some i; consumed = t.consumed; sent = t.sent; fault = t.fault; number = t.number }

-- the promise of serving connection i, which is c, with its own part of the bytes
pub data ServesNext (r : Room) (i : ℕ) (counts given : List ℕ) (vs : List ℤ) (buffer : List ℕ) (c : Connection) (d : TurnedOne) (vs' : List ℤ) (buffer' : List ℕ) : Type 0 where
  serves_next : (t : PortAnswer) → d.turned ≡ busy_with i t → Serves r c (waiting_of counts given i) vs buffer (record { connection = d.connection; answer = t }) vs' buffer'
      → ServesNext r i counts given vs buffer c d vs' buffer'

-- the promise of a turn for c that is not refused: with nobody waiting all stays, else c is served as the one that is next
pub data ServesWaiting (r : Room) (flags : List Bool) (last : ℕ) (counts given : List ℕ) (vs : List ℤ) (buffer : List ℕ) (c : Connection) (d : TurnedOne) (vs' : List ℤ) (buffer' : List ℕ) : Type 0 where
  nobody_waits : next last (waits_by flags counts) ≡ None → d ≡ record { connection = c; turned = still 0 } → vs' ≡ vs → buffer' ≡ buffer → ServesWaiting r flags last counts given vs buffer c d vs' buffer'
  one_waits : (i : ℕ) → next last (waits_by flags counts) ≡ Some i → ServesNext r i counts given vs buffer c d vs' buffer' → ServesWaiting r flags last counts given vs buffer c d vs' buffer'

-- the promise of the whole turn for c: refused, all stays
pub data TurnsOne (r : Room) (s : Survey) (last : ℕ) (counts given : List ℕ) (vs : List ℤ) (buffer : List ℕ) (c : Connection) (d : TurnedOne) (vs' : List ℤ) (buffer' : List ℕ) : Type 0 where
  refused : (n : ℕ) → number_by r s.few last counts (length given) vs (length buffer) ≡ n → (n ≡ 0 → ⊥)
      → d ≡ record { connection = c; turned = still n } → vs' ≡ vs → buffer' ≡ buffer → TurnsOne r s last counts given vs buffer c d vs' buffer'
  accepted : number_by r s.few last counts (length given) vs (length buffer) ≡ 0 → ServesWaiting r s.flags last counts given vs buffer c d vs' buffer'
      → TurnsOne r s last counts given vs buffer c d vs' buffer'

-- the promise of the turn for connection i of a row: it stands where it stood, after the turn, and the others are as they were
pub data TurnsAt (r : Room) (s : Survey) (last : ℕ) (counts given : List ℕ) (vs : List ℤ) (buffer : List ℕ) (row : List Connection) (i : ℕ) (t : Turned) (row' : List Connection) (vs' : List ℤ) (buffer' : List ℕ) : Type 0 where
  turns_at : (d : TurnedOne) → TurnsOne r s last counts given vs buffer (get_or row i closed) d vs' buffer' → t ≡ d.turned → row' ≡ set row i d.connection
      → TurnsAt r s last counts given vs buffer row i t row' vs' buffer'
