-- A turn for the connection that was taken out of a row of 32, wherever the row is kept: what it tells, and what is put back.
use Rattle.std.specs.Prelude.{◌≡◌, refl, ℕ, ◌≤◌, ◌<◌, ℤ, length, get_or, None, Option, Some}
use Rattle.std.proofs.Math.Path.{sym, ap}
use Rattle.std.proofs.Common.{◌∙◌, arith, get_or-set_same}
use mathlib.Core.List.{List}
use Rattle.std.proofs.Math.ListN.{set}
use Rattle.values.specs.Room.{Room}
use Rattle.syntax.specs.Shape.{line_limit}
use Rattle.serial_port.specs.Call.{step}
use Rattle.serial_port.specs.Call.Telling.{few_by, seen_by}
use Rattle.serial_port.specs.Port.{view}
use Rattle.serial_port.specs.Server.{control_space}
use Rattle.serial_port.specs.declared.port.Port.{Port}
use Rattle.connections.specs.Connections.{closed, flags, port_at}
use Rattle.connections.specs.Survey.{nothing_noted, surveyed_from}
use Rattle.connections.specs.Survey.Laws.{looked_over}
use Rattle.connections.specs.Turn.{Asked, Told, Turns, answer, bytes_of, chosen, idle, tells, turn, turn_number}
use Rattle.connections.proofs.Laws.Turn.Exactly.{exactly_ten, row_length}
use Rattle.connections.proofs.Laws.Turn.Kept.{refused-told}
use Rattle.connections.proofs.Laws.Turn.Laws.{ServedAs, nobody_served, one_served, accepted, nobody_changes, served-as, told-by, turn-call, turn_number_lem}
use Rattle.connections.specs.Turn.Picking.{number_of, picked, picked_next}
use Rattle.connections.specs.Turn.Single.{TurnsOne, turns_at}
use Rattle.connections.proofs.Laws.Turn.Whole.{turn-lent}
use Rattle.connections.specs.declared.connection.Connection.{Connection}
use Rattle.connections.specs.declared.survey.Survey.{Survey}
use Rattle.connections.specs.declared.turning.TurnedOne.{TurnedOne}

-- the one to take out is the one that is served
picked-chosen : (r : Room) (a : Asked) (i : ℕ) → turn_number r a ≡ 0 → chosen a ≡ Some i → picked (flags a.row) a.counts a.last ≡ i
unfolding chosen number_of
picked-chosen r a i z q =
    let k = accepted r a z in
    picked_next (flags a.row) a.counts a.last k.counts (omega (arith, k.last)) ∙ ap number_of q

-- a row of another length
pub misfit_told : (r : Room) (a : Asked) → (length a.row ≡ 32 → ⊥)
    → turn r a ≡ record { number = 10; served = None; consumed = 0; sent = 0; fault = None; values = a.values; buffer = a.buffer }
misfit_told r a h = refused-told r a 9 ((exactly_ten r a).1 (row_length h))

-- connection i was served, with the port p handed back: it is seen as the call says, and claims at most 64 bytes
pub record Back (r : Room) (a : Asked) (i : ℕ) (p : Port) : Type 0 where
  pub place : i < 32
  pub seen : view p ≡ (step (control_space r) a.values (view (port_at a.row i)) (bytes_of a i)).port
  pub few : p.len ≤ line_limit

module _ (r : Room) (a : Asked) (s : Survey) (k : ℕ) (c : Connection) (d : TurnedOne) (vs' : List ℤ) (buffer' : List ℕ) (all : length a.row ≡ 32)
    (e : s ≡ surveyed_from 0 a.row nothing_noted) (q : k ≡ picked s.flags a.counts a.last) (out : c ≡ get_or a.row k closed)
    (h : TurnsOne r s a.last a.counts a.given a.values a.buffer c d vs' buffer') where
  made : Turns r a (tells d.turned vs' buffer') (set a.row k d.connection)
  made = turn-lent r a s k d.turned (set a.row k d.connection) vs' buffer' all e q (turns_at d (rw out at h) refl refl)

  -- what it tells is what the turn tells, or whatever is made of that
  pub taken_field : {A : Type 0} (f : Told → A)
      → f (record { number = d.turned.number; served = d.turned.served; consumed = d.turned.consumed; sent = d.turned.sent; fault = d.turned.fault; values = vs'; buffer = buffer' })
      ≡ f (turn r a)
  unfolding tells
  taken_field f = ap f (told-by made)

  -- with nobody served it counts zero
  pub taken_nobody : d.turned.served ≡ None
      → record { number = d.turned.number; served = None; consumed = 0; sent = 0; fault = None; values = vs'; buffer = buffer' } ≡ turn r a
  unfolding tells idle
  taken_nobody w =
      let q = (nobody_changes made w).1 in
      let number = ap (λ (t : Told). t.number) q in
      let values = ap (λ (t : Told). t.values) q in
      let buffer = ap (λ (t : Told). t.buffer) q in
      let z : record { number = d.turned.number; served = None; consumed = 0; sent = 0; fault = None; values = vs'; buffer = buffer' } ≡ idle (turn_number r a) a =
      λ j. record { number = number j; served = None; consumed = 0; sent = 0; fault = None; values = values j; buffer = buffer j } in
      z ∙ sym q ∙ told-by made

  same_flags : s.flags ≡ flags a.row
  same_flags = ap (λ (t : Survey). t.flags) (e ∙ looked_over a.row all)

  port_there : (i : ℕ) → i < 32 → k ≡ i → port_at (set a.row k d.connection) i ≡ d.connection.port
  unfolding port_at
  port_there i l w = rw (← w) (ap (λ (x : Connection). x.port) (get_or-set_same a.row k d.connection closed (omega arith)))

  -- the port to be put back is that of the call
  pub taken_back : (i : ℕ) → d.turned.served ≡ Some i → Back r a i d.connection.port
  unfolding tells answer
  taken_back i w = go d.turned.served w (served-as made)
    where
      row' : List Connection
      row' = set a.row k d.connection

      t : Told
      t = tells d.turned vs' buffer'

      go : (x : Option ℕ) → x ≡ Some i → ServedAs r a t row' x → Back r a i d.connection.port
      go None y (nobody_served same told) = absurd (let z : ◌≡◌ {A = ℕ} 0 1 = cc in omega arith)
      go (Some j) y (one_served j' z g l b) =
          let same : j ≡ i = cc in
          let there : k ≡ i = q ∙ ap (λ f. picked f a.counts a.last) same_flags ∙ picked-chosen r a j z g ∙ same in
          let number : t.number ≡ 0 = taken_field (λ (t : Told). t.number) ∙ turn_number_lem r a ∙ z in
          let call = turn-call made i w in
          let back : port_at row' i ≡ d.connection.port = port_there i (omega (arith, same, l)) there in
          record {
            place = omega (arith, same, l);
            seen = rw (← back) (seen_by call number);
            few = rw (← back) (few_by call number);
          }
