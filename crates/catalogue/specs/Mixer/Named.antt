-- The search for indices among the rows of a mixer comes to what arithmetic says.
use Rattle.std.specs.Prelude.{◌≡◌, Bool, ◌&&◌, List, ◌∷◌, leb}
use Rattle.std.proofs.Math.Path.{refl}
use Rattle.std.proofs.Common.{sym, ◌∙◌, ap}
use Rattle.std.proofs.Math.Bool.{true, false, cond}
use Prim.Native.Nat.{ℕ, zero, suc, ◌+◌, ◌-◌, ◌*◌, ◌≤◌, ◌<◌}
use Rattle.std.proofs.Math.Decide.{dec_le}
use Rattle.std.proofs.Math.Nat.{sub-zero}
use native.Mathlib.Omega.{arith}
use borrow.Author.Tests.{eq-eqb, eqb-true, le-leb, lt-leb}
use Rattle.std.proofs.Math.Dec.{eqb}
use Rattle.text.specs.Every.Laws.{both, never}
use Rattle.catalogue.specs.Mixer.{mixer_count, mixer_number, mixer_row, mixer_rows, row_number, tabulated, within}
use Rattle.catalogue.specs.Mixer.Indexed.{Indexed, row_indexed}
use Rattle.catalogue.specs.Mixer.Indexed as row
use Rattle.catalogue.specs.Row.{same_indices}
use Rattle.catalogue.specs.declared.row.Indices.{Indices}
use Rattle.catalogue.specs.declared.row.Indices.TheVariants.{OneGroup, TwoGroups}
use Rattle.catalogue.specs.declared.row.Row.{Row}

-- ---- the search, row by row

pub number-first : (i : Indices) (r : Row) (rs : List Row) → same_indices r.indices i ≡ true → row_number i (r ∷ rs) ≡ 0
unfolding row_number
number-first i r rs e = rw e

pub number-later : (i : Indices) (r : Row) (rs : List Row) → same_indices r.indices i ≡ false → row_number i (r ∷ rs) ≡ suc (row_number i rs)
unfolding row_number
number-later i r rs e = rw e

-- ---- where row q alone has the indices, or none of them has and q is their count, the search ends at q

module _ (i : Indices) (row : ℕ → Row) (count q : ℕ) (most : q ≤ count)
    (only : (k : ℕ) → k < count → same_indices (row k).indices i ≡ true → k ≡ q)
    (has : q < count → same_indices (row q).indices i ≡ true) where
  passed : (k : ℕ) → k < count → same_indices (row k).indices i ≡ false → k ≡ q → ⊥
  passed k l f e =
      let h : same_indices (row k).indices i ≡ true = ap (λ n. same_indices (row n).indices i) e ∙ has (omega arith) in
      never (sym f ∙ h)

  search_from : (left k : ℕ) → k + left ≡ count → k ≤ q → row_number i (tabulated row left k) ≡ q - k
  unfolding row_number tabulated
  search_from zero k e h = omega (arith, most)
  search_from (suc left) k e h = go (same_indices (row k).indices i) refl (search_from left (suc k) (omega arith))
    where
      go : (b : Bool) → same_indices (row k).indices i ≡ b → (suc k ≤ q → row_number i (tabulated row left (suc k)) ≡ q - suc k)
          → cond b 0 (suc (row_number i (tabulated row left (suc k)))) ≡ q - k
      go true s below = let o = only k (omega arith) s in omega arith
      go false s below = beyond (dec_le (suc k) q) below
        where
          beyond : Dec (suc k ≤ q) → (suc k ≤ q → row_number i (tabulated row left (suc k)) ≡ q - suc k) → suc (row_number i (tabulated row left (suc k))) ≡ q - k
          beyond (yes l) below = let r = below l in omega arith
          beyond (no n) below = absurd (passed k (omega arith) s (omega arith))

  search_all : row_number i (tabulated row count 0) ≡ q
  search_all = search_from count 0 (omega arith) (omega arith) ∙ sub-zero q

-- ---- the number that arithmetic says

data Within (first size none j : ℕ) : ℕ → Type 0 where
  inside : 1 ≤ j → j ≤ size → Within first size none j (first + (j - 1))
  outside : (1 ≤ j → j ≤ size → ⊥) → Within first size none j none

within-is : (first size none j : ℕ) → Within first size none j (within first size none j)
unfolding within
within-is first size none j = go (dec_le 1 j) (dec_le j size)
  where
    go : Dec (1 ≤ j) → Dec (j ≤ size) → Within first size none j (cond (leb 1 j && leb j size) (first + (j - 1)) none)
    go (yes l) (yes m) = rw (le-leb 1 j l, le-leb j size m) (inside l m)
    go (yes l) (no n) = rw (le-leb 1 j l, lt-leb j size (omega arith)) (outside (λ a b. n b))
    go (no n) d = rw (lt-leb 1 j (omega arith)) (outside (λ a b. n a))

-- row q has the index groups a and j, or there is none and q is the count
data Answers (inputs outputs a j : ℕ) : ℕ → Type 0 where
  input : a ≡ 1 → 1 ≤ j → j ≤ 2 * inputs → Answers inputs outputs a j (0 + (j - 1))
  output : a ≡ 2 → 1 ≤ j → j ≤ 2 * outputs → Answers inputs outputs a j (2 * inputs + (j - 1))
  route : a ≡ 3 → 1 ≤ j → j ≤ inputs → Answers inputs outputs a j (2 * inputs + 2 * outputs + (j - 1))
  none : (a ≡ 1 → 1 ≤ j → j ≤ 2 * inputs → ⊥) → (a ≡ 2 → 1 ≤ j → j ≤ 2 * outputs → ⊥) → (a ≡ 3 → 1 ≤ j → j ≤ inputs → ⊥)
      → Answers inputs outputs a j (mixer_count inputs outputs)

module _ (inputs outputs a j : ℕ) where
  as_input : a ≡ 1 → {q : ℕ} → Within 0 (2 * inputs) (mixer_count inputs outputs) j q → Answers inputs outputs a j q
  as_input e (inside l m) = input e l m
  as_input e (outside n) = none (λ f. n) (λ f l m. omega arith) (λ f l m. omega arith)

  as_output : a ≡ 2 → {q : ℕ} → Within (2 * inputs) (2 * outputs) (mixer_count inputs outputs) j q → Answers inputs outputs a j q
  as_output e (inside l m) = output e l m
  as_output e (outside n) = none (λ f l m. omega arith) (λ f. n) (λ f l m. omega arith)

  as_route : a ≡ 3 → {q : ℕ} → Within (2 * inputs + 2 * outputs) inputs (mixer_count inputs outputs) j q → Answers inputs outputs a j q
  as_route e (inside l m) = route e l m
  as_route e (outside n) = none (λ f l m. omega arith) (λ f l m. omega arith) (λ f. n)

  number-answers : Answers inputs outputs a j (mixer_number inputs outputs (TwoGroups a j))
  unfolding mixer_number
  number-answers = go (eqb a 1) refl (eqb a 2) refl (eqb a 3) refl
    where
      other : (b : ℕ) → eqb a b ≡ false → a ≡ b → ⊥
      other b f e = never (sym f ∙ eq-eqb a b e)

      go : (p : Bool) → eqb a 1 ≡ p → (q : Bool) → eqb a 2 ≡ q → (r : Bool) → eqb a 3 ≡ r
          → Answers inputs outputs a j
          (cond p (within 0 (2 * inputs) (mixer_count inputs outputs) j)
          (cond q (within (2 * inputs) (2 * outputs) (mixer_count inputs outputs) j)
          (cond r (within (2 * inputs + 2 * outputs) inputs (mixer_count inputs outputs) j) (mixer_count inputs outputs))))
      go true e q f r g = as_input (eqb-true a 1 e) (within-is 0 (2 * inputs) (mixer_count inputs outputs) j)
      go false e true f r g = as_output (eqb-true a 2 f) (within-is (2 * inputs) (2 * outputs) (mixer_count inputs outputs) j)
      go false e false f true g = as_route (eqb-true a 3 g) (within-is (2 * inputs + 2 * outputs) inputs (mixer_count inputs outputs) j)
      go false e false f false g = none (λ h l m. other 1 e h) (λ h l m. other 2 f h) (λ h l m. other 3 g h)

  -- ---- is the row's

  same-two : (b c : ℕ) → same_indices (TwoGroups b c) (TwoGroups a j) ≡ true → (b ≡ a) × (c ≡ j)
  unfolding same_indices
  same-two b c e = let t = both (eqb b a) (eqb c j) e in (eqb-true b a t.0, eqb-true c j t.1)

  two_same : (b c : ℕ) → b ≡ a → c ≡ j → same_indices (TwoGroups b c) (TwoGroups a j) ≡ true
  unfolding same_indices
  two_same b c e f = rw (eq-eqb b a e, eq-eqb c j f) refl

  answer-most : {q : ℕ} → Answers inputs outputs a j q → q ≤ mixer_count inputs outputs
  unfolding mixer_count
  answer-most (input e l m) = omega arith
  answer-most (output e l m) = omega arith
  answer-most (route e l m) = omega arith
  answer-most (none f g h) = omega arith

  answer-has : {q : ℕ} {i : Indices} → Answers inputs outputs a j q → q < mixer_count inputs outputs → Indexed inputs outputs q i → same_indices i (TwoGroups a j) ≡ true
  unfolding mixer_count
  answer-has (input e l m) h (row.input n) = two_same 1 _ (omega arith) (omega arith)
  answer-has (input e l m) h (row.output n o) = absurd (omega arith)
  answer-has (input e l m) h (row.route n) = absurd (omega arith)
  answer-has (output e l m) h (row.input n) = absurd (omega arith)
  answer-has (output e l m) h (row.output n o) = two_same 2 _ (omega arith) (omega arith)
  answer-has (output e l m) h (row.route n) = absurd (omega arith)
  answer-has (route e l m) h (row.input n) = absurd (omega arith)
  answer-has (route e l m) h (row.output n o) = absurd (omega arith)
  answer-has (route e l m) h (row.route n) = two_same 3 _ (omega arith) (omega arith)
  answer-has (none f g k) h d = absurd (omega arith)

  answer-only : {q k : ℕ} {i : Indices} → Answers inputs outputs a j q → k < mixer_count inputs outputs → Indexed inputs outputs k i → same_indices i (TwoGroups a j) ≡ true → k ≡ q
  unfolding mixer_count
  answer-only {q} {k} w h (row.input n) s = go w (same-two 1 (k + 1) s).0 (same-two 1 (k + 1) s).1
    where
      go : {q : ℕ} → Answers inputs outputs a j q → 1 ≡ a → k + 1 ≡ j → k ≡ q
      go (input e l m) b c = omega arith
      go (output e l m) b c = absurd (omega arith)
      go (route e l m) b c = absurd (omega arith)
      go (none f g x) b c = absurd (f (omega arith) (omega arith) (omega arith))
  answer-only {q} {k} w h (row.output n o) s = go w (same-two 2 (k - 2 * inputs + 1) s).0 (same-two 2 (k - 2 * inputs + 1) s).1
    where
      go : {q : ℕ} → Answers inputs outputs a j q → 2 ≡ a → k - 2 * inputs + 1 ≡ j → k ≡ q
      go (input e l m) b c = absurd (omega arith)
      go (output e l m) b c = omega arith
      go (route e l m) b c = absurd (omega arith)
      go (none f g x) b c = absurd (g (omega arith) (omega arith) (omega arith))
  answer-only {q} {k} w h (row.route n) s = go w (same-two 3 (k - 2 * inputs - 2 * outputs + 1) s).0 (same-two 3 (k - 2 * inputs - 2 * outputs + 1) s).1
    where
      go : {q : ℕ} → Answers inputs outputs a j q → 3 ≡ a → k - 2 * inputs - 2 * outputs + 1 ≡ j → k ≡ q
      go (input e l m) b c = absurd (omega arith)
      go (output e l m) b c = absurd (omega arith)
      go (route e l m) b c = omega arith
      go (none f g x) b c = absurd (x (omega arith) (omega arith) (omega arith))

-- no row has one group
one_never : (inputs outputs k a : ℕ) {i : Indices} → Indexed inputs outputs k i → same_indices i (OneGroup a) ≡ true → k ≡ mixer_count inputs outputs
unfolding same_indices
one_never inputs outputs k a (row.input n) s = never s
one_never inputs outputs k a (row.output n o) s = never s
one_never inputs outputs k a (row.route n) s = never s

pub mixer-named : (inputs outputs : ℕ) (i : Indices) → row_number i (mixer_rows inputs outputs) ≡ mixer_number inputs outputs i
unfolding mixer_rows mixer_number
mixer-named inputs outputs (OneGroup a) =
    search_all (OneGroup a) (mixer_row inputs outputs) (mixer_count inputs outputs) (mixer_count inputs outputs) (omega arith)
    (λ k h s. one_never inputs outputs k a (row_indexed inputs outputs k) s) (λ h. absurd (omega arith))
mixer-named inputs outputs (TwoGroups a j) =
    let w = number-answers inputs outputs a j in
    search_all (TwoGroups a j) (mixer_row inputs outputs) (mixer_count inputs outputs) (mixer_number inputs outputs (TwoGroups a j)) (answer-most inputs outputs a j w)
    (λ k h s. answer-only inputs outputs a j w h (row_indexed inputs outputs k) s)
    (λ h. answer-has inputs outputs a j w h (row_indexed inputs outputs (mixer_number inputs outputs (TwoGroups a j))))
