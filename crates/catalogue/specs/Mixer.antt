-- The rows of a Standard Mixer, computed from its numbers of inputs and outputs, each of which is 1 to 32.
pub mod Indexed
pub mod Named
pub mod Permitted
pub mod Permitting
pub mod Right
pub mod Tabulated
pub mod Taking
use Rattle.std.specs.Prelude.{Bool, true, cond, ◌&&◌, List, [], ◌∷◌, ℕ, zero, suc, ◌+◌, ◌-◌, ◌*◌, ◌%◌, ◌^◌, ◌≤◌, eqb, leb, ltb, pos, neg_ℤ}
use Rattle.catalogue.specs.Row.{same_indices}
use Rattle.catalogue.specs.declared.row.Indices.{Indices}
use Rattle.catalogue.specs.declared.row.Indices.TheVariants.{OneGroup, TwoGroups}
use Rattle.catalogue.specs.declared.row.Kind.TheVariants.{Level, Switch, Word}
use Rattle.catalogue.specs.declared.row.Row.{Row}

-- how many inputs a mixer may have, and how many outputs
unfoldable pub size_right : ℕ → Bool
size_right n = leb 1 n && leb n 32

-- a mixer's size
pub record MixerSize (inputs outputs : ℕ) : Type 0 where
  pub some_inputs : 1 ≤ inputs
  pub inputs_most : inputs ≤ 32
  pub some_outputs : 1 ≤ outputs
  pub outputs_most : outputs ≤ 32

-- a level, -60.5 to 12.0 dB in steps of 0.5
unfoldable pub fader : ℕ → ℕ → Row
fader group j = record { indices = TwoGroups group j; kind = Level; low = neg_ℤ (pos 605); high = pos 120; step = 5; settable = true }

unfoldable pub mute : ℕ → ℕ → Row
mute group j = record { indices = TwoGroups group j; kind = Switch; low = pos 0; high = pos 1; step = 1; settable = true }

-- row k of the inputs or of the outputs, from 0: at odd indices the levels, at even ones the mutes
unfoldable pub channel_row : (group : ℕ) → ℕ → Row
channel_row group k = cond (eqb (k % 2) 0) (fader group (k + 1)) (mute group (k + 1))

-- the routing word of input k, from 0: the last output's bit is the step
unfoldable pub route_row : (outputs : ℕ) → ℕ → Row
route_row outputs k =
    record {
      indices = TwoGroups 3 (k + 1);
      kind = Word;
      low = pos 0;
      high = pos (2 ^ 32 - 2 ^ (32 - outputs));
      step = 2 ^ (32 - outputs);
      settable = true;
    }

-- row k of a mixer, from 0: the channels of the inputs, those of the outputs, and a routing word for each input
unfoldable pub mixer_row : (inputs outputs : ℕ) → ℕ → Row
mixer_row inputs outputs k =
    cond (ltb k (2 * inputs)) (channel_row 1 k)
    (cond (ltb (k - 2 * inputs) (2 * outputs)) (channel_row 2 (k - 2 * inputs)) (route_row outputs (k - 2 * inputs - 2 * outputs)))

-- so many rows, from number k on
unfoldable pub tabulated : (ℕ → Row) → (count k : ℕ) → List Row
tabulated row zero k = []
tabulated row (suc count) k = row k ∷ tabulated row count (suc k)

unfoldable pub mixer_count : (inputs outputs : ℕ) → ℕ
mixer_count inputs outputs = 3 * inputs + 2 * outputs

-- the rows of a mixer
unfoldable pub mixer_rows : (inputs outputs : ℕ) → List Row
mixer_rows inputs outputs = tabulated (mixer_row inputs outputs) (mixer_count inputs outputs) 0

-- ---- a row by its indices

-- the number of the first row with the indices i; as many as there are rows where none has them
unfoldable pub row_number : Indices → List Row → ℕ
row_number i [] = 0
row_number i (r ∷ rs) = cond (same_indices r.indices i) 0 (suc (row_number i rs))

-- index j of a group of so many rows that begins behind `first` rows; else `none`
unfoldable pub within : (first size none j : ℕ) → ℕ
within first size none j = cond (leb 1 j && leb j size) (first + (j - 1)) none

-- the same by arithmetic: 1>j is row j - 1, 2>j row 2 * inputs + j - 1, 3>j row 2 * inputs + 2 * outputs + j - 1
unfoldable pub mixer_number : (inputs outputs : ℕ) → Indices → ℕ
mixer_number inputs outputs (OneGroup a) = mixer_count inputs outputs
mixer_number inputs outputs (TwoGroups a j) =
    cond (eqb a 1) (within 0 (2 * inputs) (mixer_count inputs outputs) j)
    (cond (eqb a 2) (within (2 * inputs) (2 * outputs) (mixer_count inputs outputs) j)
    (cond (eqb a 3) (within (2 * inputs + 2 * outputs) inputs (mixer_count inputs outputs) j) (mixer_count inputs outputs)))
