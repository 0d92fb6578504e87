-- Rules for the code of a turn: one for each way to return, and what it asks of the functions that it calls.
use Rattle.std.specs.Prelude.{◌≡◌, refl, Bool, List, [], ◌∷◌, ℕ, ◌≤◌, ◌<◌, ℤ, length, get_or, None, Option, Some}
use Rattle.std.proofs.Common.{sym, ◌∙◌, ap}
use Rattle.values.specs.Room.{Room}
use Rattle.syntax.specs.Shape.{line_limit}
use Rattle.line.specs.Fault.{fault_numbers}
use Rattle.line.specs.Fault.Laws.{none_numbers, two_numbers}
use Rattle.serial_port.specs.Call.{step}
use Rattle.serial_port.specs.Port.{view}
use Rattle.serial_port.specs.Server.{control_space}
use Rattle.connections.specs.Connections.{closed, port_at}
use Rattle.connections.specs.Survey.{nothing_noted, surveyed_from}
use Rattle.connections.specs.Turn.{Asked, Told, bytes_of, turn}
use Rattle.connections.specs.Turn.Picking.{picked}
use Rattle.connections.proofs.Laws.Turn.Picking.{picked-below}
use Rattle.connections.specs.Turn.Single.{TurnsOne}
use Rattle.connections.proofs.Laws.Turn.TakenOut.{Back, misfit_told, taken_back, taken_field, taken_nobody}
use Rattle.connections.specs.declared.connection.Connection.{Connection}
use Rattle.connections.specs.declared.survey.Survey.{Survey}
use Rattle.connections.specs.declared.turning.TurnedOne.{TurnedOne}
use Rattle.capi.specs.Connections.{row_of}
use Rattle.capi.specs.Connections.Places.{no_thirty_two, row_length}
use Rattle.capi.specs.Connections.Storing.{StoresServed, stores_served}
use Rattle.capi.specs.Port.{port_tells}
use Rattle.capi.specs.Port.Bytes.{bytes_of as stored_bytes}
use Rattle.capi.specs.Port.Calling.{stored}
use Rattle.capi.specs.Turn.{Left, PutBack, TurnCalled, asked_of, called, counted, put_back, served_numbers, told_numbers, turn_answer}

-- the promise of the turn for the connection that is picked: it was taken out of the row that the bytes say, all of which were noted
pub data TurnsPicked (r : Room) (vs : List ℤ) (row : List ℕ) (last : ℕ) (given counts reply : List ℕ) (d : TurnedOne) (vs' : List ℤ) (reply' : List ℕ) : Type 0 where
  turns_picked : (k : ℕ) (s : Survey) → s ≡ surveyed_from 0 (row_of row) nothing_noted → k ≡ picked s.flags counts last
      → TurnsOne r s last counts given vs reply (get_or (row_of row) k closed) d vs' reply' → TurnsPicked r vs row last given counts reply d vs' reply'

-- the number that is picked has a place
pub pick_place : (n : ℕ) (flags : List Bool) (counts : List ℕ) (last : ℕ) → n ≡ picked flags counts last → n < 32
pick_place n flags counts last e = rw e (picked-below flags counts last)

pub picked-turn : (r : Room) (vs : List ℤ) (row : List ℕ) (last : ℕ) (given counts reply : List ℕ) (d : TurnedOne) (vs' : List ℤ) (reply' : List ℕ) (s : Survey) (k : ℕ) (c : Connection)
    → TurnsOne r s last counts given vs reply c d vs' reply' → c ≡ get_or (row_of row) k closed → k ≡ picked s.flags counts last → s ≡ surveyed_from 0 (row_of row) nothing_noted
    → TurnsPicked r vs row last given counts reply d vs' reply'
picked-turn r vs row last given counts reply d vs' reply' s k c h out q e = turns_picked k s e q (rw out at h)

pub ruleset picking = (pick_place, picked-turn)

-- nobody is served: the row stays
left_nobody : (r : Room) (a : Asked) (s : Option ℕ) (row : List ℕ) → None ≡ s → Left r a s row row
left_nobody r a s row e = rw (← e) refl

-- ---- a turn over another number of bytes

pub turn-bytes : (r : Room) (vs : List ℤ) (row : List ℕ) (last : ℕ) (given counts reply : List ℕ) → (length row ≡ 2144 → ⊥)
    → TurnCalled r vs row last given counts reply 10 vs row reply (0 ∷ 0 ∷ 0 ∷ 0 ∷ 0 ∷ 0 ∷ [])
unfolding turn_answer counted told_numbers served_numbers
turn-bytes r vs row last given counts reply h =
    let a = asked_of row last counts given vs reply in
    let q = misfit_told r a (no_thirty_two row h) in
    called (rw (q, ← (none_numbers None refl)) refl) (left_nobody r a (turn r a).served row (sym (ap (λ (t : Told). t.served) q)))

-- ---- a turn over 32 connections

module _ (r : Room) (vs : List ℤ) (row : List ℕ) (last : ℕ) (given counts reply : List ℕ) (d : TurnedOne) (vs' : List ℤ) (reply' : List ℕ)
    (h : TurnsPicked r vs row last given counts reply d vs' reply') (long : length row ≡ 2144) where
  abbrev a : Asked
  a = asked_of row last counts given vs reply

  field : {A : Type 0} (f : Told → A)
      → f (record { number = d.turned.number; served = d.turned.served; consumed = d.turned.consumed; sent = d.turned.sent; fault = d.turned.fault; values = vs'; buffer = reply' })
      ≡ f (turn r a)
  field f = go h
    where
      go : TurnsPicked r vs row last given counts reply d vs' reply'
          → f (record { number = d.turned.number; served = d.turned.served; consumed = d.turned.consumed; sent = d.turned.sent; fault = d.turned.fault; values = vs'; buffer = reply' })
          ≡ f (turn r a)
      go (turns_picked k s e q t) = taken_field r a s k (get_or (row_of row) k closed) d vs' reply' (row_length row long) e q refl t f

  nobody : d.turned.served ≡ None → record { number = d.turned.number; served = None; consumed = 0; sent = 0; fault = None; values = vs'; buffer = reply' } ≡ turn r a
  nobody w = go h
    where
      go : TurnsPicked r vs row last given counts reply d vs' reply'
          → record { number = d.turned.number; served = None; consumed = 0; sent = 0; fault = None; values = vs'; buffer = reply' } ≡ turn r a
      go (turns_picked k s e q t) = taken_nobody r a s k (get_or (row_of row) k closed) d vs' reply' (row_length row long) e q refl t w

  back : (i : ℕ) → d.turned.served ≡ Some i → Back r a i d.connection.port
  back i w = go h
    where
      go : TurnsPicked r vs row last given counts reply d vs' reply' → Back r a i d.connection.port
      go (turns_picked k s e q t) = taken_back r a s k (get_or (row_of row) k closed) d vs' reply' (row_length row long) e q refl t i w

  pub served-place : (i : ℕ) → d.turned.served ≡ Some i → i < 32
  served-place i w = (back i w).place

  pub served-few : (i : ℕ) → d.turned.served ≡ Some i → d.connection.port.len ≤ 64
  unfolding line_limit
  served-few i w = (back i w).few

  pub turn-nobody : d.turned.served ≡ None → TurnCalled r vs row last given counts reply d.turned.number vs' row reply' (0 ∷ 0 ∷ 0 ∷ 0 ∷ 0 ∷ 0 ∷ [])
  unfolding turn_answer counted told_numbers served_numbers
  turn-nobody w =
      let z = nobody w in
      called (rw (← z, ← (none_numbers None refl)) refl) (left_nobody r a (turn r a).served row (ap (λ (t : Told). t.served) z))

  -- the row's bytes where connection i was served
  left_served : (i : ℕ) (x : Option ℕ) (row' : List ℕ) → Some i ≡ x → Back r a i d.connection.port → StoresServed row i d.connection.port row' → Left r a x row row'
  left_served i x row' w b (stores_served size placed) =
      let p = d.connection.port in
      let v = (step (control_space r) vs (view (port_at (row_of row) i)) (bytes_of a i)).port in
      let put : PutBack row i v row' = put_back (stored_bytes p) size (stored p v b.seen b.few) placed in
      rw (← w) put

  pub turn-served : (i : ℕ) (ns row' : List ℕ) → d.turned.served ≡ Some i → ns ≡ fault_numbers d.turned.fault → StoresServed row i d.connection.port row'
      → TurnCalled r vs row last given counts reply d.turned.number vs' row' reply' (1 ∷ i ∷ d.turned.consumed ∷ d.turned.sent ∷ get_or ns 0 0 ∷ get_or ns 1 0 ∷ [])
  unfolding turn_answer counted told_numbers served_numbers
  turn-served i ns row' w f p =
      let told : port_tells d.turned.number (1 ∷ i ∷ d.turned.consumed ∷ d.turned.sent ∷ fault_numbers d.turned.fault) vs' reply' ≡ counted (turn r a) =
      rw w at (field counted) in
      let numbers = two_numbers d.turned.fault in
      called (rw (f, numbers) told) (left_served i (turn r a).served row' (sym w ∙ field (λ (t : Told). t.served)) (back i w) p)

pub ruleset turning = (turn-bytes, served-place, served-few, turn-nobody, turn-served)
