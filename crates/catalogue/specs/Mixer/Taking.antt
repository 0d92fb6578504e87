-- Rules for the code that computes a mixer's row, and the number of the row with given indices.
use Rattle.std.specs.Prelude.{◌≡◌, true, ℕ, ◌+◌, ◌-◌, ◌*◌, ◌%◌, ◌^◌, ◌≤◌, ◌<◌, pos}
use Rattle.std.proofs.Common.{sym, ◌∙◌, arith, pow_mono, to_z}
use borrow.Author.Tests.{eq-eqb, le-leb, le-ltb, lt-leb, lt-ltb, ne_eqb}
use Rattle.std.proofs.Math.Facts.{to_z_pos}
use Rattle.std.specs.Int.{w64}
use Rattle.catalogue.specs.Mixer.{MixerSize, channel_row, fader, mixer_count, mixer_number, mixer_row, mixer_rows, mute, route_row, row_number, within}
use Rattle.catalogue.specs.Mixer.Named.{mixer-named}
use Rattle.catalogue.specs.declared.row.Indices.{Indices}
use Rattle.catalogue.specs.declared.row.Indices.TheVariants.{OneGroup, TwoGroups}
use Rattle.catalogue.specs.declared.row.Kind.TheVariants.{Word}
use Rattle.catalogue.specs.declared.row.Row.{Row}

-- ---- a row

pub level-row : (group k : ℕ) (r : Row) → k % 2 ≡ 0 → r ≡ fader group (k + 1) → r ≡ channel_row group k
unfolding channel_row
level-row group k r e h = h ∙ rw (eq-eqb (k % 2) 0 e)

pub mute-row : (group k : ℕ) (r : Row) → (k % 2 ≡ 0 → ⊥) → r ≡ mute group (k + 1) → r ≡ channel_row group k
unfolding channel_row
mute-row group k r n h = h ∙ rw (ne_eqb (k % 2) 0 n)

pub ruleset channels = (level-row, mute-row)

-- no step is over 2 ^ 32
pub step-most : (outputs step : ℕ) → step ≡ 2 ^ (32 - outputs) → step ≤ 4294967296
step-most outputs step e =
    let m : 2 ^ (32 - outputs) ≤ 2 ^ 32 = pow_mono {j = 32} (omega arith) in
    omega arith

pub word_row : (outputs k step : ℕ) → step ≡ 2 ^ (32 - outputs)
    → ◌≡◌ {A = Row} (record { indices = TwoGroups 3 (k + 1); kind = Word; low = pos 0; high = to_z w64 (4294967296 - step); step = step; settable = true }) (route_row outputs k)
unfolding route_row
word_row outputs k step e =
    let small : 4294967296 - 2 ^ (32 - outputs) < 2 ^ 63 = omega arith in
    rw (e, to_z_pos w64 small)

module _ (inputs outputs k : ℕ) (r : Row) where
  pub input-row : k < 2 * inputs → r ≡ channel_row 1 k → r ≡ mixer_row inputs outputs k
  unfolding mixer_row
  input-row l e = e ∙ rw (lt-ltb k (2 * inputs) l)

  pub output_row : 2 * inputs ≤ k → k - 2 * inputs < 2 * outputs → r ≡ channel_row 2 (k - 2 * inputs) → r ≡ mixer_row inputs outputs k
  unfolding mixer_row
  output_row l m e = e ∙ rw (le-ltb k (2 * inputs) l, lt-ltb (k - 2 * inputs) (2 * outputs) m)

  pub route_row_lem : 2 * inputs ≤ k → 2 * outputs ≤ k - 2 * inputs → r ≡ route_row outputs (k - 2 * inputs - 2 * outputs) → r ≡ mixer_row inputs outputs k
  unfolding mixer_row
  route_row_lem l m e = e ∙ rw (le-ltb k (2 * inputs) l, le-ltb (k - 2 * inputs) (2 * outputs) m)

-- a number below the count, as code computes it
pub number-within : (inputs outputs k : ℕ) → k < 3 * inputs + 2 * outputs → k < mixer_count inputs outputs
unfolding mixer_count
number-within inputs outputs k h = h

pub row_number-small : (inputs outputs k : ℕ) → MixerSize inputs outputs → k < mixer_count inputs outputs → k - 2 * inputs - 2 * outputs < 160
unfolding mixer_count
row_number-small inputs outputs k s h = omega (arith, s.inputs_most, s.outputs_most)

pub ruleset mixing = (input-row, output_row, route_row_lem, row_number-small)

-- ---- a row's number

module _ (first size none j : ℕ) where
  pub index_zero : j < 1 → none ≡ within first size none j
  unfolding within
  index_zero l = rw (lt-leb 1 j l)

  pub index_past : 1 ≤ j → size < j → none ≡ within first size none j
  unfolding within
  index_past l m = rw (le-leb 1 j l, lt-leb j size m)

  pub index_inside : 1 ≤ j → j ≤ size → first + (j - 1) ≡ within first size none j
  unfolding within
  index_inside l m = rw (le-leb 1 j l, le-leb j size m)

pub ruleset finding = (index_zero, index_past, index_inside)

module _ (inputs outputs a j r : ℕ) where
  pub input-number : a ≡ 1 → r ≡ within 0 (2 * inputs) (3 * inputs + 2 * outputs) j → r ≡ mixer_number inputs outputs (TwoGroups a j)
  unfolding mixer_number mixer_count
  input-number e h = h ∙ rw e

  pub output_number : a ≡ 2 → r ≡ within (2 * inputs) (2 * outputs) (3 * inputs + 2 * outputs) j → r ≡ mixer_number inputs outputs (TwoGroups a j)
  unfolding mixer_number mixer_count
  output_number e h = h ∙ rw e

  pub route_number : a ≡ 3 → r ≡ within (2 * inputs + 2 * outputs) inputs (3 * inputs + 2 * outputs) j → r ≡ mixer_number inputs outputs (TwoGroups a j)
  unfolding mixer_number mixer_count
  route_number e h = h ∙ rw e

pub no_number : (inputs outputs a j : ℕ) → (a ≡ 1 → ⊥) → (a ≡ 2 → ⊥) → (a ≡ 3 → ⊥) → 3 * inputs + 2 * outputs ≡ mixer_number inputs outputs (TwoGroups a j)
unfolding mixer_number mixer_count
no_number inputs outputs a j e f g = rw (ne_eqb a 1 e, ne_eqb a 2 f, ne_eqb a 3 g)

pub ruleset grouped = (input-number, output_number, route_number)

pub one_number : (inputs outputs a : ℕ) (i : Indices) → i ≡ OneGroup a → 3 * inputs + 2 * outputs ≡ row_number i (mixer_rows inputs outputs)
unfolding mixer_number mixer_count
one_number inputs outputs a i e = sym (mixer-named inputs outputs i ∙ rw e)

pub two_number : (inputs outputs a j r : ℕ) (i : Indices) → i ≡ TwoGroups a j → r ≡ mixer_number inputs outputs (TwoGroups a j) → r ≡ row_number i (mixer_rows inputs outputs)
two_number inputs outputs a j r i e h = h ∙ rw (← e) (sym (mixer-named inputs outputs i))

pub ruleset numbering = (one_number, two_number)
