-- What C is told of a table's values, so that it need not know the catalogue: how many they are, the start values, and each row with its place.
pub mod Telling
use Rattle.std.specs.Prelude.{cond, List, [], ◌∷◌, ℕ, eqb, ℤ, pos, negsuc, length, Option, Some, None}
use Rattle.catalogue.specs.declared.row.Indices.{Indices}
use Rattle.catalogue.specs.declared.row.Indices.TheVariants.{OneGroup, TwoGroups}
use Rattle.catalogue.specs.declared.row.Kind.{Kind}
use Rattle.catalogue.specs.declared.row.Kind.TheVariants.{Level, Switch, Number, Word}
use Rattle.catalogue.specs.declared.row.Row.{Row}
use Rattle.room.specs.Refusal.{first_refusal}
use Rattle.room.specs.Table.{sound, table_number}
use Rattle.values.specs.Parameters.{by_row, parameters, place}
use Rattle.values.specs.Starts.{starts}
use Rattle.values.specs.declared.parameter.Parameter.{Parameter}

-- the number that a call answers, and what it leaves in the lent numbers
pub record Told (A : Type 0) : Type 0 where
  pub number : ℕ
  pub numbers : List A

unfoldable pub tells : {A : Type 0} → ℕ → List A → Told A
tells n ns = record { number = n; numbers = ns }

-- 1 and zeros over a table that is not sound
unfoldable pub over_table : {A : Type 0} → (zeros : List A) → (table : List ℕ) → Told A → Told A
over_table zeros t a = cond (sound t) a (tells 1 zeros)

-- 9 and zeros where module or row is not there
unfoldable pub of_row : {A : Type 0} → (zeros : List A) → (Parameter → List A) → Option Parameter → Told A
of_row zeros say (Some p) = tells 0 (say p)
of_row zeros say None = tells 9 zeros

-- ---- how many values

unfoldable pub count_answer : (table : List ℕ) → Told ℕ
count_answer t = over_table (0 ∷ []) t (tells 0 (length (parameters t) ∷ []))

-- ---- a row, by the numbers of its module and of itself, both counted from 0

-- its place in the value list
unfoldable pub place_answer : (table : List ℕ) → (owner row : ℕ) → Told ℕ
place_answer t n j = over_table (0 ∷ []) t (of_row (0 ∷ []) (λ p. place p ∷ []) (by_row t n j))

unfoldable pub first_index : Indices → ℤ
first_index (OneGroup a) = pos a
first_index (TwoGroups a b) = pos a

-- -1 where there is no second index
unfoldable pub second_index : Indices → ℤ
second_index (OneGroup a) = negsuc 0
second_index (TwoGroups a b) = pos b

unfoldable pub kind_number : Kind → ℤ
kind_number Level = pos 0
kind_number Switch = pos 1
kind_number Number = pos 2
kind_number Word = pos 3

-- a row in seven numbers: its two indices, its kind, low, high and step, and 1 where a line may set it, else 0
unfoldable pub row_numbers : Row → List ℤ
row_numbers r =
    first_index r.indices ∷ second_index r.indices ∷ kind_number r.kind ∷ r.low ∷ r.high ∷ pos r.step ∷ cond r.settable (pos 1) (pos 0) ∷ []

unfoldable pub seven_zeros : List ℤ
seven_zeros = pos 0 ∷ pos 0 ∷ pos 0 ∷ pos 0 ∷ pos 0 ∷ pos 0 ∷ pos 0 ∷ []

unfoldable pub row_answer : (table : List ℕ) → (owner row : ℕ) → Told ℤ
row_answer t n j = over_table seven_zeros t (of_row seven_zeros (λ p. row_numbers p.row) (by_row t n j))

-- ---- the start values

-- 2 where the list has not as many entries as the table has parameters
unfoldable pub count_number : (table : List ℕ) → List ℤ → ℕ
count_number t vs = cond (eqb (length vs) (length (parameters t))) 0 2

unfoldable pub starts_number : (table : List ℕ) → List ℤ → ℕ
starts_number t vs = first_refusal (table_number t ∷ count_number t vs ∷ [])

-- the list becomes the start values; a refusal changes nothing
unfoldable pub starts_answer : (table : List ℕ) → List ℤ → Told ℤ
starts_answer t vs = tells (starts_number t vs) (cond (eqb (starts_number t vs) 0) (starts t) vs)
