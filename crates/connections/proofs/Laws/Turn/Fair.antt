-- Everyone has a turn: who waits in each of 32 accepted turns is served by one of them.
use Rattle.std.specs.Prelude.{◌≡◌, refl, Bool, true, List, [], ◌∷◌, map, ℕ, ◌≤◌, ◌<◌, length, Some}
use Rattle.std.proofs.Common.{◌∙◌, ap, arith}
use Rattle.std.proofs.lemmas.List.{length-map}
use Rattle.values.specs.Room.{Room}
use Rattle.connections.specs.Round.{next, last_after}
use Rattle.connections.proofs.Laws.Round.Fair as round
use Rattle.connections.specs.Turn.{Turns, Made}
use Rattle.connections.proofs.Laws.Turn.First.{waiting, serves_next}
use Rattle.connections.proofs.Laws.Turn.Laws.{accepted, accepts}

-- turns made one after the other: each is accepted, and is given the last served that the one before left. Between two turns any connection may be opened, closed or replaced:
-- nothing ties the row of a turn to the one before
abbrev pub Run : Room → (last : ℕ) → List Made → Type 0
Run r last [] = Unit {0}
Run r last (u ∷ us) =
    Turns r u.asked u.told u.row × (u.told.number ≡ 0) × (u.asked.last ≡ last) × Run r (last_after last u.told.served) us

-- in each, connection c is open and has bytes waiting
abbrev pub AllWait : (c : ℕ) → List Made → Type 0
AllWait c [] = Unit {0}
AllWait c (u ∷ us) = (waiting u.asked c ≡ true) × AllWait c us

-- one of them serves it
pub data Serves (c : ℕ) : List Made → Type 0 where
  now : (u : Made) (us : List Made) → u.told.served ≡ Some c → Serves c (u ∷ us)
  later : (u : Made) (us : List Made) → Serves c us → Serves c (u ∷ us)

-- who waits in each
abbrev waits : Made → ℕ → Bool
waits u = waiting u.asked

module _ (r : Room) where
  -- what holds by who waits in each turn holds of the turns
  served-so : (c last : ℕ) (us : List Made) → Run r last us → round.Serves c last (map waits us) → Serves c us
  served-so c last [] h s = go [] refl s
    where
      go : (ws : List (ℕ → Bool)) → ws ≡ [] → round.Serves c last ws → Serves c []
      go (w ∷ ws) e (round.now l v t q) = absurd (let z : ◌≡◌ {A = ℕ} 0 1 = cc in omega arith)
      go (w ∷ ws) e (round.later l v t k) = absurd (let z : ◌≡◌ {A = ℕ} 0 1 = cc in omega arith)
      go [] e x4 = elim x4 [ ]
  served-so c last (u ∷ us) h s =
      go s (serves_next h.0 h.1 ∙ ap (λ (n : ℕ). next n (waits u)) h.2) (λ k. served-so c (last_after last u.told.served) us h.3 k)
    where
      go : round.Serves c last (waits u ∷ map waits us) → u.told.served ≡ next last (waits u)
          → (round.Serves c (last_after last u.told.served) (map waits us) → Serves c us) → Serves c (u ∷ us)
      go (round.now l w t e) q more = now u us (q ∙ e)
      go (round.later l w t k) q more = later u us (more (rw q k))

  all_waiting : (c : ℕ) (us : List Made) → AllWait c us → round.AllWait c (map waits us)
  all_waiting c [] h = tt
  all_waiting c (u ∷ us) h = (h.0, all_waiting c us h.1)

  last_within : (last : ℕ) (us : List Made) → Run r last us → 32 ≤ length us → last < 32
  last_within last [] h l = absurd (omega arith)
  last_within last (u ∷ us) h l = rw (← h.2) (accepted r u.asked (accepts h.0 h.1)).last

  -- the others may open and close as they like
  pub served-within : (c last : ℕ) (us : List Made) → c < 32 → Run r last us → AllWait c us → 32 ≤ length us → Serves c us
  served-within c last us q h a l =
      served-so c last us h (round.served-within c last (map waits us) (last_within last us h l) q (all_waiting c us a) (rw length-map l))
