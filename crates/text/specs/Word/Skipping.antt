-- How the code finds the one output in which two words differ: it halves both while their lowest bits are the same, and then compares what is left.
use Rattle.std.specs.Prelude.{◌≡◌, refl}
use Rattle.std.proofs.Math.Path.{sym, ap}
use Rattle.std.proofs.Common.{◌∙◌}
use mathlib.Core.List.{List, [], ◌∷◌}
use Prim.Native.Nat.{ℕ, zero, suc, ◌+◌, ◌-◌, ◌/◌, ◌%◌, ◌^◌, ◌≤◌, ◌<◌}
use native.Mathlib.Omega.{arith}
use Rattle.text.specs.Word.{bit_at, bit, differing_to, differing, single, only_differing}
use Rattle.text.specs.Word.Apart.{same_step, apart_step, none_to, same-to}
use Rattle.text.specs.Word.Bits.{bits-same, bit_kept}

-- behind output o the words v and w are the same, and a and b are what is left of them
pub record Skipped (v w a b o : ℕ) : Type 0 where
  pub few : o ≤ 32
  pub a_small : a < 2 ^ o
  pub b_small : b < 2 ^ o
  pub unlike : a ≡ b → ⊥
  pub a-bits : (k : ℕ) → k < o → bit_at k a ≡ bit_at (k + (32 - o)) v
  pub b_bits : (k : ℕ) → k < o → bit_at k b ≡ bit_at (k + (32 - o)) w
  pub rest : differing v w ≡ differing_to o v w

-- the bits of the words from 1 to o, by what is left of one of them
left_bit : (a v o : ℕ) → o ≤ 32 → ((k : ℕ) → k < o → bit_at k a ≡ bit_at (k + (32 - o)) v) → (p : ℕ) → 1 ≤ p → p ≤ o → bit p v ≡ bit_at (o - p) a
unfolding bit
left_bit a v o f h p l m =
    let e : 32 - p ≡ o - p + (32 - o) = omega arith in
    ap (λ k. bit_at k v) e ∙ sym (h (o - p) (omega arith))

pub skip_same : (v w : ℕ) → v % 4294967296 ≡ w % 4294967296 → 0 ≡ only_differing v w
unfolding only_differing differing single bit
skip_same v w e =
    rw (none_to 32 v w (λ o l m. sym (bit_kept 32 (32 - o) v (omega arith)) ∙ ap (bit_at (32 - o)) e ∙ bit_kept 32 (32 - o) w (omega arith)))

pub skip_start : (v w : ℕ) → (v % 4294967296 ≡ w % 4294967296 → ⊥) → Skipped v w (v % 4294967296) (w % 4294967296) 32
unfolding differing
skip_start v w n =
    record {
      few = omega arith;
      a_small = omega arith;
      b_small = omega arith;
      unlike = n;
      a-bits = λ k l. let e : k ≡ k + (32 - 32) = omega arith in bit_kept 32 k v l ∙ ap (λ j. bit_at j v) e;
      b_bits = λ k l. let e : k ≡ k + (32 - 32) = omega arith in bit_kept 32 k w l ∙ ap (λ j. bit_at j w) e;
      rest = refl;
    }

module _ (v w a b o : ℕ) (s : Skipped v w a b o) where
  pub skip_some : 1 ≤ o
  skip_some = go o s.a_small s.b_small
    where
      go : (o : ℕ) → a < 2 ^ o → b < 2 ^ o → 1 ≤ o
      go zero p q = absurd (s.unlike (omega arith))
      go (suc o) p q = omega arith

  pub skip_less : o - 1 < o
  skip_less = let l = skip_some in omega arith

-- ---- the bit of output n + 1, and those before it

module _ (v w a b n : ℕ) (s : Skipped v w a b (suc n)) where
  v_lowest : bit (suc n) v ≡ a % 2
  unfolding bit_at
  v_lowest =
      let e : suc n - suc n ≡ 0 = omega arith in
      left_bit a v (suc n) s.few s.a-bits (suc n) (omega arith) (omega arith) ∙ ap (λ k. bit_at k a) e

  w_lowest : bit (suc n) w ≡ b % 2
  unfolding bit_at
  w_lowest =
      let e : suc n - suc n ≡ 0 = omega arith in
      left_bit b w (suc n) s.few s.b_bits (suc n) (omega arith) (omega arith) ∙ ap (λ k. bit_at k b) e

  v_above : (p : ℕ) → 1 ≤ p → p ≤ n → bit p v ≡ bit_at (n - p) (a / 2)
  unfolding bit_at
  v_above p l m =
      let e : suc n - p ≡ suc (n - p) = omega arith in
      left_bit a v (suc n) s.few s.a-bits p l (omega arith) ∙ ap (λ k. bit_at k a) e

  w_above : (p : ℕ) → 1 ≤ p → p ≤ n → bit p w ≡ bit_at (n - p) (b / 2)
  unfolding bit_at
  w_above p l m =
      let e : suc n - p ≡ suc (n - p) = omega arith in
      left_bit b w (suc n) s.few s.b_bits p l (omega arith) ∙ ap (λ k. bit_at k b) e

  next-at : a % 2 ≡ b % 2 → Skipped v w (a / 2) (b / 2) n
  unfolding bit_at
  next-at h =
      let few = s.few in
      let up : (k : ℕ) → k < n → suc k + (32 - suc n) ≡ k + (32 - n) = λ k l. omega arith in
      record {
        few = omega arith;
        a_small = let l = s.a_small in omega arith;
        b_small = let l = s.b_small in omega arith;
        unlike = λ e. s.unlike (omega arith);
        a-bits = λ k l. s.a-bits (suc k) (omega arith) ∙ ap (λ j. bit_at j v) (up k l);
        b_bits = λ k l. s.b_bits (suc k) (omega arith) ∙ ap (λ j. bit_at j w) (up k l);
        rest = s.rest ∙ same_step n v w (v_lowest ∙ h ∙ sym w_lowest);
      }

  -- the words differ in output n + 1, and perhaps before it
  module _ (h : a % 2 ≡ b % 2 → ⊥) where
    apart_at : differing v w ≡ suc n ∷ differing_to n v w
    apart_at = s.rest ∙ apart_step n v w (λ e. h (sym v_lowest ∙ e ∙ w_lowest))

    one_at : a / 2 ≡ b / 2 → suc n ≡ only_differing v w
    unfolding only_differing single
    one_at e =
        let z : differing_to n v w ≡ [] = none_to n v w (λ p l m. v_above p l m ∙ ap (bit_at (n - p)) e ∙ sym (w_above p l m)) in
        rw (apart_at, z)

    more-at : (a / 2 ≡ b / 2 → ⊥) → 0 ≡ only_differing v w
    unfolding only_differing single
    more-at d = rw apart_at (go (differing_to n v w) refl)
      where
        halves_same : differing_to n v w ≡ [] → a / 2 ≡ b / 2
        halves_same z =
            let p = s.a_small in
            let q = s.b_small in
            bits-same n (a / 2) (b / 2) (omega arith) (omega arith)
            (λ k l.
            let e : k ≡ n - (n - k) = omega arith in
            ap (λ j. bit_at j (a / 2)) e ∙ sym (v_above (n - k) (omega arith) (omega arith))
            ∙ same-to n v w z (n - k) (omega arith) (omega arith)
            ∙ w_above (n - k) (omega arith) (omega arith) ∙ ap (λ j. bit_at j (b / 2)) (sym e))

        go : (os : List ℕ) → differing_to n v w ≡ os → 0 ≡ single (suc n ∷ os)
        go [] z = absurd (d (halves_same z))
        go (p ∷ os) z = refl

-- ---- the rules, with the output as the code counts it

pub skip_next : (v w a b o : ℕ) → Skipped v w a b o → a % 2 ≡ b % 2 → Skipped v w (a / 2) (b / 2) (o - 1)
skip_next v w a b zero s h = absurd (let l = skip_some v w a b 0 s in omega arith)
skip_next v w a b (suc n) s h = let e : suc n - 1 ≡ n = omega arith in rw e (next-at v w a b n s h)

pub skip_one : (v w a b o : ℕ) → Skipped v w a b o → (a % 2 ≡ b % 2 → ⊥) → a / 2 ≡ b / 2 → o ≡ only_differing v w
skip_one v w a b zero s h e = absurd (let l = skip_some v w a b 0 s in omega arith)
skip_one v w a b (suc n) s h e = one_at v w a b n s h e

pub skip_more : (v w a b o : ℕ) → Skipped v w a b o → (a % 2 ≡ b % 2 → ⊥) → (a / 2 ≡ b / 2 → ⊥) → 0 ≡ only_differing v w
skip_more v w a b zero s h d = absurd (let l = skip_some v w a b 0 s in omega arith)
skip_more v w a b (suc n) s h d = more-at v w a b n s h d

pub ruleset skipping = (skip_same, skip_start, skip_some, skip_less, skip_next, skip_one, skip_more)
