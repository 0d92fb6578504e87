-- What row k of a mixer is and which indices it has; and so the rows rise, and no two have the same indices.
use Rattle.std.specs.Prelude.{◌≡◌, false, cond, not, ◌&&◌, ◌||◌, ℕ, ◌+◌, ◌-◌, ◌*◌, ◌%◌, ◌≤◌, ◌<◌, eqb, ltb}
use Rattle.std.proofs.Math.Path.{refl}
use Rattle.std.proofs.Math.Bool.{true}
use Rattle.std.proofs.Math.Decide.{dec_le, dec_lt}
use Rattle.std.proofs.Common.{arith}
use borrow.Author.Tests.{eq-eqb, le-ltb, lt-ltb, ne_eqb}
use Rattle.std.specs.Int.Signed.{lt_z}
use Rattle.text.specs.Every.{pairs}
use Rattle.catalogue.specs.Catalogue.{first_number, second_number}
use Rattle.catalogue.specs.Catalogue.Distinct.{rows_differ}
use Rattle.catalogue.specs.Catalogue.Rules.{precedes}
use Rattle.catalogue.specs.Mixer.{channel_row, fader, mixer_row, mixer_rows, mute, route_row}
use Rattle.catalogue.specs.Mixer.Tabulated.{mixer-pairs}
use Rattle.catalogue.specs.Row.{same_indices}
use Rattle.catalogue.specs.declared.row.Indices.{Indices}
use Rattle.catalogue.specs.declared.row.Indices.TheVariants.{TwoGroups}
use Rattle.catalogue.specs.declared.row.Row.{Row}

-- a level, a mute or a routing word
pub data Channel (group k : ℕ) : Row → Type 0 where
  level : k % 2 ≡ 0 → Channel group k (fader group (k + 1))
  switch : k % 2 ≡ 1 → Channel group k (mute group (k + 1))

pub channel_is : (group k : ℕ) → Channel group k (channel_row group k)
unfolding channel_row
channel_is group k = go (dec_le (k % 2) 0)
  where
    go : Dec (k % 2 ≤ 0) → Channel group k (cond (eqb (k % 2) 0) (fader group (k + 1)) (mute group (k + 1)))
    go (yes l) = rw (eq-eqb (k % 2) 0 (omega arith)) (level (omega arith))
    go (no n) = rw (ne_eqb (k % 2) 0 (λ e. n (omega arith))) (switch (omega arith))

-- row k of a mixer
pub data Stands (inputs outputs k : ℕ) : Row → Type 0 where
  input : k < 2 * inputs → Stands inputs outputs k (channel_row 1 k)
  output : 2 * inputs ≤ k → k < 2 * inputs + 2 * outputs → Stands inputs outputs k (channel_row 2 (k - 2 * inputs))
  route : 2 * inputs + 2 * outputs ≤ k → Stands inputs outputs k (route_row outputs (k - 2 * inputs - 2 * outputs))

pub row_stands : (inputs outputs k : ℕ) → Stands inputs outputs k (mixer_row inputs outputs k)
unfolding mixer_row
row_stands inputs outputs k = go (dec_lt k (2 * inputs)) (dec_lt (k - 2 * inputs) (2 * outputs))
  where
    go : Dec (k < 2 * inputs) → Dec (k - 2 * inputs < 2 * outputs)
        → Stands inputs outputs k (cond (ltb k (2 * inputs)) (channel_row 1 k)
        (cond (ltb (k - 2 * inputs) (2 * outputs)) (channel_row 2 (k - 2 * inputs)) (route_row outputs (k - 2 * inputs - 2 * outputs))))
    go (yes l) d = rw (lt-ltb k (2 * inputs) l) (input l)
    go (no n) (yes l) = rw (le-ltb k (2 * inputs) (omega arith), lt-ltb (k - 2 * inputs) (2 * outputs) l) (output (omega arith) (omega arith))
    go (no n) (no m) = rw (le-ltb k (2 * inputs) (omega arith), le-ltb (k - 2 * inputs) (2 * outputs) (omega arith)) (route (omega arith))

-- ---- its indices

pub data Indexed (inputs outputs k : ℕ) : Indices → Type 0 where
  input : k < 2 * inputs → Indexed inputs outputs k (TwoGroups 1 (k + 1))
  output : 2 * inputs ≤ k → k < 2 * inputs + 2 * outputs → Indexed inputs outputs k (TwoGroups 2 (k - 2 * inputs + 1))
  route : 2 * inputs + 2 * outputs ≤ k → Indexed inputs outputs k (TwoGroups 3 (k - 2 * inputs - 2 * outputs + 1))

channel_indices : (group k : ℕ) → (channel_row group k).indices ≡ TwoGroups group (k + 1)
unfolding fader mute
channel_indices group k = go (channel_is group k)
  where
    go : {r : Row} → Channel group k r → r.indices ≡ TwoGroups group (k + 1)
    go (level e) = refl
    go (switch e) = refl

pub row_indexed : (inputs outputs k : ℕ) → Indexed inputs outputs k (mixer_row inputs outputs k).indices
unfolding route_row
row_indexed inputs outputs k = go (row_stands inputs outputs k)
  where
    go : {r : Row} → Stands inputs outputs k r → Indexed inputs outputs k r.indices
    go (input l) = rw (channel_indices 1 k) (input l)
    go (output l m) = rw (channel_indices 2 (k - 2 * inputs)) (output l m)
    go (route l) = route l

-- ---- a row before another

module _ (inputs outputs i j : ℕ) (h : i < j) where
  -- has another first index, or the same and another second one
  differ : {a b : Indices} → Indexed inputs outputs i a → Indexed inputs outputs j b → same_indices a b ≡ false
  unfolding same_indices
  differ (input l) (input m) = ne_eqb (i + 1) (j + 1) (λ e. omega arith)
  differ (input l) (output m n) = refl
  differ (input l) (route m) = refl
  differ (output l m) (input n) = absurd (omega arith)
  differ (output l m) (output n o) = ne_eqb (i - 2 * inputs + 1) (j - 2 * inputs + 1) (λ e. omega arith)
  differ (output l m) (route n) = refl
  differ (route l) (input m) = absurd (omega arith)
  differ (route l) (output m n) = absurd (omega arith)
  differ (route l) (route m) = ne_eqb (i - 2 * inputs - 2 * outputs + 1) (j - 2 * inputs - 2 * outputs + 1) (λ e. omega arith)

  rises : (owner : ℕ) (r s : Row) → Indexed inputs outputs i r.indices → Indexed inputs outputs j s.indices
      → precedes (record { owner = owner; row = r }) (record { owner = owner; row = s }) ≡ true
  unfolding precedes first_number second_number
  rises owner r s p q = rw (le-ltb owner owner (omega arith), eq-eqb owner owner refl) (go p q)
    where
      go : {a b : Indices} → Indexed inputs outputs i a → Indexed inputs outputs j b
          → (lt_z (first_number a) (first_number b) || (not (lt_z (first_number b) (first_number a)) && lt_z (second_number a) (second_number b))) ≡ true
      go (input l) (input m) = lt-ltb (i + 1) (j + 1) (omega arith)
      go (input l) (output m n) = refl
      go (input l) (route m) = refl
      go (output l m) (input n) = absurd (omega arith)
      go (output l m) (output n o) = lt-ltb (i - 2 * inputs + 1) (j - 2 * inputs + 1) (omega arith)
      go (output l m) (route n) = refl
      go (route l) (input m) = absurd (omega arith)
      go (route l) (output m n) = absurd (omega arith)
      go (route l) (route m) = lt-ltb (i - 2 * inputs - 2 * outputs + 1) (j - 2 * inputs - 2 * outputs + 1) (omega arith)

-- the rows rise, by index 1 and where it is the same by index 2
pub mixer-rises : (inputs outputs owner i j : ℕ) → i < j
    → precedes (record { owner = owner; row = mixer_row inputs outputs i }) (record { owner = owner; row = mixer_row inputs outputs j }) ≡ true
mixer-rises inputs outputs owner i j h =
    rises inputs outputs i j h owner (mixer_row inputs outputs i) (mixer_row inputs outputs j) (row_indexed inputs outputs i) (row_indexed inputs outputs j)

-- no two have the same indices
pub mixer-distinct : (inputs outputs : ℕ) → pairs rows_differ (mixer_rows inputs outputs) ≡ true
unfolding rows_differ
mixer-distinct inputs outputs =
    mixer-pairs rows_differ inputs outputs
    (λ i j h l. rw (differ inputs outputs i j h (row_indexed inputs outputs i) (row_indexed inputs outputs j)) refl)
