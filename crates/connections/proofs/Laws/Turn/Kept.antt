-- A turn that tells what `turn` says, and leaves the row so, keeps the promise of a turn, wherever the row is kept.
use Rattle.std.proofs.Math.Path.{◌≡◌, refl}
use Rattle.std.proofs.Common.{arith}
use Rattle.std.specs.Prelude.{true, List, length, set, None, Option, Some}
use Prim.Native.Nat.{ℕ, zero, suc, ◌≤◌, ◌<◌}
use Rattle.values.specs.Room.{Room}
use Rattle.syntax.specs.Shape.{line_limit}
use Rattle.serial_port.specs.Call.{call, step}
use Rattle.serial_port.specs.Call.Telling.{call_kept}
use Rattle.serial_port.specs.Port.{view}
use Rattle.serial_port.specs.Server.{control_space}
use Rattle.connections.specs.Connections.{flags, port_at}
use Rattle.connections.specs.Round.{waits_by}
use Rattle.connections.proofs.Laws.Round.Laws.{Chosen, nobody, one}
use Rattle.connections.specs.Turn.{Asked, Left, Turns, answer, busy, bytes_of, chosen, idle, put_back, tell, turn, turn_number, turns}
use Rattle.connections.proofs.Laws.Turn.Laws.{accepted, chosen-first, served-number}
use Rattle.connections.specs.declared.connection.Connection.{Connection}

-- ---- what a turn tells that serves nobody

module _ (r : Room) (a : Asked) where
  -- a refusal counts zero and changes nothing
  pub refused-told : (n : ℕ) → turn_number r a ≡ suc n
      → turn r a ≡ record { number = suc n; served = None; consumed = 0; sent = 0; fault = None; values = a.values; buffer = a.buffer }
  unfolding turn tell idle
  refused-told n e = rw e refl

  -- and so does a turn with nobody waiting
  pub nobody_told : turn_number r a ≡ 0 → chosen a ≡ None
      → turn r a ≡ record { number = 0; served = None; consumed = 0; sent = 0; fault = None; values = a.values; buffer = a.buffer }
  unfolding turn tell idle
  nobody_told e q = rw (e, q) refl

-- ---- the row

-- the row afterwards, by whom the turn served: as it was, or connection i is open with a port that is seen as its call says, and the others are as they were
pub data Leaves (r : Room) (a : Asked) (row' : List Connection) : Option ℕ → Type 0 where
  leaves_all : row' ≡ a.row → Leaves r a row' None
  leaves_others : (i : ℕ) (c : Connection) → row' ≡ set a.row i c → c.is_open ≡ true
      → view c.port ≡ (step (control_space r) a.values (view (port_at a.row i)) (bytes_of a i)).port → c.port.len ≤ line_limit → Leaves r a row' (Some i)

module _ (r : Room) (a : Asked) where
  place : (i : ℕ) → turn_number r a ≡ 0 → chosen a ≡ Some i → i < 32
  place i e q = go (chosen a) q (chosen-first r a e)
    where
      go : (s : Option ℕ) → s ≡ Some i → Chosen a.last (waits_by (flags a.row) a.counts) s → i < 32
      go None h (nobody n) = absurd (let z : ◌≡◌ {A = ℕ} 0 1 = cc in omega arith)
      go (Some k) h (one j l w n) = let same : k ≡ i = cc in omega (arith, same, l)

  -- whoever is served stands in a row of 32
  pub served-place : (i : ℕ) → (turn r a).served ≡ Some i → (length a.row ≡ 32) × (i < 32)
  unfolding turn tell idle busy
  served-place i h = go (turn_number r a) (chosen a) refl refl h
    where
      go : (n : ℕ) (s : Option ℕ) → turn_number r a ≡ n → chosen a ≡ s → (tell r a n s).served ≡ Some i → (length a.row ≡ 32) × (i < 32)
      go zero None e q h = absurd (let z : ◌≡◌ {A = ℕ} 0 1 = cc in omega arith)
      go zero (Some k) e q h = let same : k ≡ i = cc in ((accepted r a e).row, omega (arith, same, place k e q))
      go (suc n) s e q h = absurd (let z : ◌≡◌ {A = ℕ} 0 1 = cc in omega arith)

module _ (r : Room) (a : Asked) (row' : List Connection) where
  by_served : (n : ℕ) (s : Option ℕ) → turn_number r a ≡ n → chosen a ≡ s → Leaves r a row' (tell r a n s).served → Left r a n s (tell r a n s) row'
  unfolding tell idle busy answer
  by_served zero None e q (leaves_all p) = p
  by_served zero (Some i) e q (leaves_others j c p o v few) =
      let at = port_at a.row i in
      put_back c p o
      (call_kept r a.values at (bytes_of a i) a.buffer c.port (served-number r a i e (place r a i e q)) v few (call r a.values at (bytes_of a i) a.buffer) refl)
  by_served (suc n) s e q (leaves_all p) = p

  pub turn-kept : Leaves r a row' (turn r a).served → Turns r a (turn r a) row'
  unfolding turn
  turn-kept h = turns refl (by_served (turn_number r a) (chosen a) refl refl h)
