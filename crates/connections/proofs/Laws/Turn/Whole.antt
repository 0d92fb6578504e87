-- The turn made for the connection that is picked, in a row of 32 that was looked over, is the turn.
use Rattle.std.specs.Prelude.{◌≡◌, refl, List, ℤ, length, get_or, set}
use Rattle.std.proofs.Common.{sym, ◌∙◌, arith}
use Rattle.std.proofs.Math.Path.{ap}
use Prim.Native.Nat.{ℕ, zero, suc}
use Rattle.std.proofs.lemmas.List.{set-get_or}
use Rattle.text.specs.Every.{every}
use Rattle.values.specs.Room.{Room}
use Rattle.connections.specs.Connections.{closed, flags}
use Rattle.connections.specs.Survey.{nothing_noted, surveyed_from}
use Rattle.connections.specs.Survey.Laws.{looked_over}
use Rattle.connections.specs.Turn.{Asked, claims_few, turn_number, chosen, bytes_of, idle, Turns, tells}
use Rattle.connections.proofs.Laws.Turn.Exactly.{row_length, exactly_ten}
use Rattle.connections.proofs.Laws.Turn.Laws.{accepted}
use Rattle.connections.proofs.Laws.Turn.Making.{refused-made, nobody_made, served-made, told}
use Rattle.connections.specs.Turn.Number.{number_by, number-noted}
use Rattle.connections.specs.Turn.Picking.{number_of, picked, picked_next}
use Rattle.connections.specs.Turn.Single as single
use Rattle.connections.specs.Turn.Single.{still, TurnsAt, turns_at, ServesWaiting, nobody_waits, one_waits, serves_next}
use Rattle.connections.specs.declared.connection.Connection.{Connection}
use Rattle.connections.specs.declared.survey.Survey.{Survey}
use Rattle.connections.specs.declared.turning.Turned.{Turned}
use Rattle.connections.specs.declared.turning.TurnedOne.{TurnedOne}

-- what was noted of the row
abbrev noted : Asked → Survey
noted a = record { few = every claims_few a.row; flags = flags a.row }

module _ (r : Room) (a : Asked) (all : length a.row ≡ 32) (i : ℕ) (pick : i ≡ picked (flags a.row) a.counts a.last) where
  number_is : (n : ℕ) → number_by r (every claims_few a.row) a.last a.counts (length a.given) a.values (length a.buffer) ≡ n → turn_number r a ≡ n
  number_is n e = sym (number-noted r a all) ∙ e

  back : set a.row i (get_or a.row i closed) ≡ a.row
  back = set-get_or a.row i closed

  waiting : (d : TurnedOne) (vs' : List ℤ) (buffer' : List ℕ) → turn_number r a ≡ 0
      → ServesWaiting r (flags a.row) a.last a.counts a.given a.values a.buffer (get_or a.row i closed) d vs' buffer'
      → Turns r a (tells d.turned vs' buffer') (set a.row i d.connection)
  unfolding tells idle chosen told bytes_of number_of
  waiting d vs' buffer' z (nobody_waits q e f g) = rw (e, f, g, back) (nobody_made r a z q)
  waiting d vs' buffer' z (one_waits k q (serves_next t e h)) =
      let k' = accepted r a z in
      let same : i ≡ k = pick ∙ picked_next (flags a.row) a.counts a.last k'.counts (omega (arith, k'.last)) ∙ ap number_of q in
      rw (e, same) (served-made r a k (record { connection = d.connection; answer = t }) vs' buffer' z q (rw same at h))

  turn-made : (t : Turned) (row' : List Connection) (vs' : List ℤ) (buffer' : List ℕ)
      → TurnsAt r (noted a) a.last a.counts a.given a.values a.buffer a.row i t row' vs' buffer' → Turns r a (tells t vs' buffer') row'
  unfolding tells idle
  turn-made t row' vs' buffer' (turns_at d (single.refused zero e h q f g) same placed) = absurd (h refl)
  turn-made t row' vs' buffer' (turns_at d (single.refused (suc n) e h q f g) same placed) = rw (same, placed, q, f, g, back) (refused-made r a n (number_is (suc n) e))
  turn-made t row' vs' buffer' (turns_at d (single.accepted e w) same placed) = rw (same, placed) (waiting d vs' buffer' (number_is 0 e) w)

-- the turn over a lent row of 32, and one of another length
module _ (r : Room) (a : Asked) where
  pub turn-lent : (s : Survey) (i : ℕ) (t : Turned) (row' : List Connection) (vs' : List ℤ) (buffer' : List ℕ) → length a.row ≡ 32
      → s ≡ surveyed_from 0 a.row nothing_noted → i ≡ picked s.flags a.counts a.last
      → TurnsAt r s a.last a.counts a.given a.values a.buffer a.row i t row' vs' buffer' → Turns r a (tells t vs' buffer') row'
  turn-lent s i t row' vs' buffer' all e q h = let same : s ≡ noted a = e ∙ looked_over a.row all in turn-made r a all i (rw same at q) t row' vs' buffer' (rw same at h)

  pub turn-misfit : (t : Turned) → (length a.row ≡ 32 → ⊥) → t ≡ still 10 → Turns r a (tells t a.values a.buffer) a.row
  unfolding tells idle
  turn-misfit t h e = rw e (refused-made r a 9 ((exactly_ten r a).1 (row_length h)))
