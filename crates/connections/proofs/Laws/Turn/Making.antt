-- How a turn is made of its parts: the number of its tests, whose turn it is, and serving that connection of the row.
use Rattle.std.specs.Prelude.{◌≡◌, true, List, ℕ, suc, ℤ, get_or, set, None, Option, Some}
use Rattle.std.proofs.Math.Path.{refl}
use Rattle.std.proofs.Common.{sym, ◌∙◌, ap, arith}
use Rattle.values.specs.Room.{Room}
use Rattle.serial_port.specs.Call.Telling.{call-field}
use Rattle.connections.specs.Connections.{closed, port_at, flags, open_at}
use Rattle.connections.specs.Connections.Number.{open_flag}
use Rattle.connections.specs.Round.{waits_by}
use Rattle.connections.proofs.Laws.Round.Laws.{Chosen, nobody, one}
use Rattle.connections.specs.Serving.{Serves, serves}
use Rattle.connections.specs.Turn.{Asked, turn_number, chosen, bytes_of, Told, idle, busy, tell, turn, answer, put_back, Turns, turns}
use Rattle.connections.proofs.Laws.Turn.Laws.{chosen-first, waits-both}
use Rattle.connections.specs.declared.serving.PortAnswer.{PortAnswer}
use Rattle.connections.specs.declared.serving.ServedOne.{ServedOne}

module _ (r : Room) (a : Asked) where
  -- a refusal
  pub refused-made : (n : ℕ) → turn_number r a ≡ suc n → Turns r a (idle (suc n) a) a.row
  unfolding turn tell
  refused-made n e = turns (rw e refl) (rw e refl)

  -- nobody waits
  pub nobody_made : turn_number r a ≡ 0 → chosen a ≡ None → Turns r a (idle 0 a) a.row
  unfolding turn tell
  nobody_made e q = turns (rw (e, q) refl) (rw (e, q) refl)

  -- what is told of a connection that was served
  unfoldable pub told : (i : ℕ) → PortAnswer → List ℤ → List ℕ → Told
  told i t vs' buffer' = record { number = t.number; served = Some i; consumed = t.consumed; sent = t.sent; fault = t.fault; values = vs'; buffer = buffer' }

  is_open : (i : ℕ) → turn_number r a ≡ 0 → chosen a ≡ Some i → (get_or a.row i closed).is_open ≡ true
  is_open i e q = go (chosen a) q (chosen-first r a e)
    where
      go : (s : Option ℕ) → s ≡ Some i → Chosen a.last (waits_by (flags a.row) a.counts) s → (get_or a.row i closed).is_open ≡ true
      go None h (nobody n) = absurd (let z : ◌≡◌ {A = ℕ} 0 1 = cc in omega arith)
      go (Some k) h (one j l w n) =
          let same : k ≡ i = cc in
          let o : open_at a.row k ≡ true = (waits-both a.row a.counts k w).0 in
          sym (open_flag a.row i) ∙ ap (open_at a.row) (sym same) ∙ o

  -- the one that is next was served, and put back where it stood
  pub served-made : (i : ℕ) (d : ServedOne) (vs' : List ℤ) (buffer' : List ℕ) → turn_number r a ≡ 0 → chosen a ≡ Some i
      → Serves r (get_or a.row i closed) (bytes_of a i) a.values a.buffer d vs' buffer' → Turns r a (told i d.answer vs' buffer') (set a.row i d.connection)
  unfolding turn tell told busy port_at answer
  served-made i d vs' buffer' e q (serves stays answers) =
      turns (rw (e, q) (call-field r a.values (get_or a.row i closed).port (bytes_of a i) a.buffer answers (busy i)))
      (rw (e, q) (put_back d.connection refl (stays ∙ is_open i e q) answers))
