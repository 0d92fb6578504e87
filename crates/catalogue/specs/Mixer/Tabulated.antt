-- Rows that are tabulated: how many there are, each by its number, and what holds of each or of each pair.
use Rattle.std.specs.Prelude.{◌≡◌, Bool, true, ◌∷◌, length, get_or, drop}
use Rattle.std.proofs.Math.Path.{refl, ap}
use Rattle.std.proofs.Common.{◌∙◌, add-one, drop-cons}
use Prim.Native.Nat.{ℕ, zero, suc, ◌+◌, ◌≤◌, ◌<◌}
use native.Mathlib.Omega.{arith}
use Rattle.text.specs.Every.{every, pairs}
use Rattle.text.specs.Every.Laws.{every_more, every-nil, pairs-more, pairs-nil}
use Rattle.catalogue.specs.Mixer.{MixerSize, mixer_count, mixer_row, mixer_rows, tabulated}
use Rattle.catalogue.specs.declared.row.Row.{Row}

module _ (row : ℕ → Row) where
  pub tabulated-length : (count k : ℕ) → length (tabulated row count k) ≡ count
  unfolding tabulated
  tabulated-length zero k = refl
  tabulated-length (suc count) k = ap suc (tabulated-length count (suc k))

  pub tabulated-at : (count k i : ℕ) (d : Row) → i < count → get_or (tabulated row count k) i d ≡ row (k + i)
  unfolding tabulated
  tabulated-at zero k i d h = absurd (omega arith)
  tabulated-at (suc count) k zero d h = let e : k ≡ k + 0 = omega arith in ap row e
  tabulated-at (suc count) k (suc i) d h =
      let e : suc k + i ≡ k + suc i = omega arith in
      tabulated-at count (suc k) i d (omega arith) ∙ ap row e

  pub tabulated-each : (test : Row → Bool) (count k : ℕ) → ((i : ℕ) → k ≤ i → i < k + count → test (row i) ≡ true) → every test (tabulated row count k) ≡ true
  unfolding tabulated
  tabulated-each test zero k h = every-nil test
  tabulated-each test (suc count) k h =
      every_more test (row k) (tabulated row count (suc k)) (h k (omega arith) (omega arith))
      (tabulated-each test count (suc k) (λ i l m. h i (omega arith) (omega arith)))

  pub tabulated-pairs : (test : Row → Row → Bool) (count k : ℕ) → ((i j : ℕ) → k ≤ i → i < j → j < k + count → test (row i) (row j) ≡ true)
      → pairs test (tabulated row count k) ≡ true
  unfolding tabulated
  tabulated-pairs test zero k h = pairs-nil test
  tabulated-pairs test (suc count) k h =
      pairs-more test (row k) (tabulated row count (suc k)) (tabulated-each (test (row k)) count (suc k) (λ j l m. h k j (omega arith) (omega arith) (omega arith)))
      (tabulated-pairs test count (suc k) (λ i j l m n. h i j (omega arith) (omega arith) (omega arith)))

-- ---- the rows of a mixer

pub mixer_length_lem : (inputs outputs : ℕ) → length (mixer_rows inputs outputs) ≡ mixer_count inputs outputs
unfolding mixer_rows
mixer_length_lem inputs outputs = tabulated-length (mixer_row inputs outputs) (mixer_count inputs outputs) 0

-- at most 160
pub mixer-few : (inputs outputs : ℕ) → MixerSize inputs outputs → length (mixer_rows inputs outputs) ≤ 160
unfolding mixer_count
mixer-few inputs outputs s = omega (arith, mixer_length_lem inputs outputs, s.inputs_most, s.outputs_most)

pub mixer-at : (inputs outputs k : ℕ) (d : Row) → k < mixer_count inputs outputs → get_or (mixer_rows inputs outputs) k d ≡ mixer_row inputs outputs k
unfolding mixer_rows
mixer-at inputs outputs k d h =
    let e : 0 + k ≡ k = omega arith in
    tabulated-at (mixer_row inputs outputs) (mixer_count inputs outputs) 0 k d h ∙ ap (mixer_row inputs outputs) e

pub mixer-each : (test : Row → Bool) (inputs outputs : ℕ) → ((k : ℕ) → k < mixer_count inputs outputs → test (mixer_row inputs outputs k) ≡ true)
    → every test (mixer_rows inputs outputs) ≡ true
unfolding mixer_rows
mixer-each test inputs outputs h = tabulated-each (mixer_row inputs outputs) test (mixer_count inputs outputs) 0 (λ i l m. h i (omega arith))

pub mixer-pairs : (test : Row → Row → Bool) (inputs outputs : ℕ)
    → ((i j : ℕ) → i < j → j < mixer_count inputs outputs → test (mixer_row inputs outputs i) (mixer_row inputs outputs j) ≡ true)
    → pairs test (mixer_rows inputs outputs) ≡ true
unfolding mixer_rows
mixer-pairs test inputs outputs h = tabulated-pairs (mixer_row inputs outputs) test (mixer_count inputs outputs) 0 (λ i j l m n. h i j m (omega arith))

-- the rows from a number on: that row, and those from the next on
pub mixer-from : (inputs outputs k : ℕ) → k < length (mixer_rows inputs outputs)
    → drop k (mixer_rows inputs outputs) ≡ mixer_row inputs outputs k ∷ drop (k + 1) (mixer_rows inputs outputs)
mixer-from inputs outputs k h =
    let r = mixer_row inputs outputs k in
    rw add-one (drop-cons (mixer_rows inputs outputs) k r h ∙ rw (mixer-at inputs outputs k r (omega (arith, mixer_length_lem inputs outputs))))
