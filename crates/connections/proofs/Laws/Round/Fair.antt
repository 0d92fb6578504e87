-- Every connection has its turn: one that waits in each of 32 turns is served in one of them.
use Rattle.std.specs.Prelude.{◌≡◌, refl, Bool, true, false, List, [], ◌∷◌, ℕ, ◌+◌, ◌-◌, ◌%◌, ◌≤◌, ◌<◌, length, None, Option, Some}
use Rattle.std.proofs.Common.{sym, ◌∙◌, arith}
use Rattle.std.proofs.Math.Decide.{dec_le}
use Rattle.connections.specs.Round.{next, last_after}
use Rattle.connections.proofs.Laws.Round.Laws.{ahead, NoneBefore, Chosen, nobody, one, next-chosen}

-- c itself, or another with fewer ahead of c then
pub data Nearer (last c : ℕ) : Option ℕ → Type 0 where
  itself : Nearer last c (Some c)
  other : (i : ℕ) → i < 32 → ahead i c < ahead last c → Nearer last c (Some i)

found-itself : (last c i : ℕ) → i ≡ c → Nearer last c (Some i)
found-itself last c i e = rw e itself

same_place : (last c i : ℕ) → last < 32 → c < 32 → i < 32 → (i + 31 - last) % 32 ≡ (c + 31 - last) % 32 → i ≡ c
same_place last c i p q l e = omega arith

nearer : (last c i : ℕ) → last < 32 → c < 32 → i < 32 → (i + 31 - last) % 32 < (c + 31 - last) % 32 → (c + 31 - i) % 32 < (c + 31 - last) % 32
nearer last c i p q l h = omega arith

never {ℓ} : {A : Type ℓ} → true ≡ false → A
never e = absurd (let z : ◌≡◌ {A = ℕ} 0 1 = cc in omega arith)

-- where c waits, a turn serves c or brings it nearer
pub next-nearer : (last c : ℕ) (waits : ℕ → Bool) → last < 32 → c < 32 → waits c ≡ true → Nearer last c (next last waits)
unfolding ahead
next-nearer last c waits p q w = go (next last waits) (next-chosen last waits p)
  where
    by : (i : ℕ) → i < 32 → NoneBefore last (ahead last i) waits → Dec ((i + 31 - last) % 32 ≤ (c + 31 - last) % 32) → Dec ((c + 31 - last) % 32 ≤ (i + 31 - last) % 32) → Nearer last c (Some i)
    by i l h (yes a) (yes b) = found-itself last c i (same_place last c i p q l (omega arith))
    by i l h (yes a) (no b) = other i l (nearer last c i p q l (omega arith))
    by i l h (no a) d = never (sym w ∙ h c q (omega arith))

    go : (s : Option ℕ) → Chosen last waits s → Nearer last c s
    go None (nobody h) = never (sym w ∙ h c q (omega arith))
    go (Some i) (one j l t h) = by i l h (dec_le ((i + 31 - last) % 32) ((c + 31 - last) % 32)) (dec_le ((c + 31 - last) % 32) ((i + 31 - last) % 32))

-- turns one after the other, each given the last served as it then stands, by who waits in each: one of them serves c
pub data Serves (c : ℕ) : (last : ℕ) → List (ℕ → Bool) → Type 1 where
  now : (last : ℕ) (waits : ℕ → Bool) (turns : List (ℕ → Bool)) → next last waits ≡ Some c → Serves c last (waits ∷ turns)
  later : (last : ℕ) (waits : ℕ → Bool) (turns : List (ℕ → Bool)) → Serves c (last_after last (next last waits)) turns → Serves c last (waits ∷ turns)

-- c waits in each
abbrev pub AllWait : ℕ → List (ℕ → Bool) → Type 0
AllWait c [] = Unit {0}
AllWait c (w ∷ ws) = (w c ≡ true) × AllWait c ws

-- as many turns as stand before c in the round, and one more, are enough
within : (c last : ℕ) (turns : List (ℕ → Bool)) → last < 32 → c < 32 → AllWait c turns → (c + 31 - last) % 32 < length turns → Serves c last turns
unfolding last_after ahead
within c last [] p q a h = absurd (omega arith)
within c last (w ∷ ws) p q a h = go (next last w) refl (next-nearer last c w p q a.0) (λ s l k. within c s ws l q a.1 k)
  where
    go : (r : Option ℕ) → next last w ≡ r → Nearer last c r
        → ((s : ℕ) → s < 32 → (c + 31 - s) % 32 < length ws → Serves c s ws) → Serves c last (w ∷ ws)
    go (Some s) e itself more = now last w ws e
    go (Some s) e (other r l k) more = later last w ws (rw e (more s l (omega arith)))
    go None e x7 more = elim x7 [ ]

pub served-within : (c last : ℕ) (turns : List (ℕ → Bool)) → last < 32 → c < 32 → AllWait c turns → 32 ≤ length turns → Serves c last turns
served-within c last turns p q a h = within c last turns p q a (omega arith)
