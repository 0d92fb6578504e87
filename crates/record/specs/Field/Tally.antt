-- How many bytes of a field meet a test.
use Rattle.std.specs.Prelude.{◌≡◌, Bool, cond, ◌&&◌, List, [], ◌∷◌, ℕ, suc, ◌+◌, ◌≤◌, ◌<◌, eqb, length, get_or, drop}
use Rattle.std.proofs.Common.{sym, ◌∙◌, add-one, arith, eq-eqb, ne_eqb, drop_of_length-le, drop-cons}
use Rattle.std.proofs.Math.Path.{ap}
use Rattle.std.proofs.Math.Bool.{true, false}
use Prim.Native.Nat.compare
use Rattle.text.specs.Every.{every}
use Rattle.text.specs.Every.Laws.{every-cons, every-nil}
use Rattle.record.specs.Field.{is_zero}

unfoldable pub tally : (ℕ → Bool) → List ℕ → ℕ
tally test [] = 0
tally test (b ∷ s) = cond (test b) (suc (tally test s)) (tally test s)

tally-most : (test : ℕ → Bool) (s : List ℕ) → tally test s ≤ length s
unfolding tally
tally-most test [] = omega arith
tally-most test (b ∷ s) = go (test b) (tally-most test s)
  where
    go : (t : Bool) → tally test s ≤ length s → cond t (suc (tally test s)) (tally test s) ≤ suc (length s)
    go true h = omega arith
    go false h = omega arith

-- all bytes are zero where as many are as there are
pub tally-every : (s : List ℕ) → every is_zero s ≡ eqb (tally is_zero s) (length s)
unfolding tally
tally-every [] = every-nil is_zero
tally-every (b ∷ s) = every-cons is_zero b s ∙ go (is_zero b) (tally-every s)
  where
    go : (t : Bool) → every is_zero s ≡ eqb (tally is_zero s) (length s)
        → (t && every is_zero s) ≡ eqb (cond t (suc (tally is_zero s)) (tally is_zero s)) (suc (length s))
    go true h = simp compare.suc-suc h
    go false h = sym (ne_eqb (tally is_zero s) (suc (length s)) (λ q. omega (arith, tally-most is_zero s)))

-- ---- the pass over the bytes

tally-cons : (test : ℕ → Bool) (b : ℕ) (s : List ℕ) (t : Bool) → test b ≡ t → tally test (b ∷ s) ≡ cond t (suc (tally test s)) (tally test s)
unfolding tally
tally-cons test b s t e = rw e

-- so many of the bytes before i are zero
pub record Tallied (s : List ℕ) (count i : ℕ) : Type 0 where
  pub within : i ≤ length s
  pub few : count ≤ i
  pub rest : tally is_zero s ≡ count + tally is_zero (drop i s)

pub tally_start : (s : List ℕ) → Tallied s 0 0
tally_start s = record { within = omega arith; few = omega arith; rest = omega arith }

module _ (s : List ℕ) (count i : ℕ) (p : Tallied s count i) (l : i < length s) where
  here : (t : Bool) → is_zero (get_or s i 0) ≡ t → tally is_zero (drop i s) ≡ cond t (suc (tally is_zero (drop (i + 1) s))) (tally is_zero (drop (i + 1) s))
  here t e = rw (drop-cons s i 0 l, ← add-one i) (tally-cons is_zero (get_or s i 0) (drop (i + 1) s) t e)

  pub tally_zero : get_or s i 0 ≡ 0 → Tallied s (count + 1) (i + 1)
  unfolding is_zero
  tally_zero e =
      let h = here true (eq-eqb (get_or s i 0) 0 e) in
      record { within = omega arith; few = omega (arith, p.few); rest = omega (arith, p.rest, h) }

  pub tally_other : (get_or s i 0 ≡ 0 → ⊥) → Tallied s count (i + 1)
  unfolding is_zero
  tally_other n =
      let h = here false (ne_eqb (get_or s i 0) 0 n) in
      record { within = omega arith; few = omega (arith, p.few); rest = p.rest ∙ ap (λ k. count + k) h }

pub tally_end : (s : List ℕ) (count i : ℕ) → Tallied s count i → length s ≤ i → count ≡ tally is_zero s
unfolding tally
tally_end s count i p l = sym (p.rest ∙ rw (drop_of_length-le s l) (omega arith))

pub ruleset tallying = (tally_start, tally_zero, tally_other, tally_end)
