-- A row of the catalogue: one parameter of a module type, and which values it permits.
pub mod Comparing
pub mod Laws
pub mod Near
use Rattle.std.specs.Prelude.{Bool, false, cond, ◌&&◌, ◌%◌, ◌^◌, ◌<◌, eqb, ℤ, pos, nat_abs, ◌-ℤ◌}
use Rattle.std.specs.Int.Signed.{le_z, mag}
use Rattle.catalogue.specs.declared.row.Indices.{Indices}
use Rattle.catalogue.specs.declared.row.Indices.TheVariants.{OneGroup, TwoGroups}
use Rattle.catalogue.specs.declared.row.Row.{Row}

-- as many groups, with the same numbers: a missing second index is not 0
unfoldable pub same_indices : Indices → Indices → Bool
same_indices (OneGroup a) (OneGroup c) = eqb a c
same_indices (OneGroup a) (TwoGroups c d) = false
same_indices (TwoGroups a b) (OneGroup c) = false
same_indices (TwoGroups a b) (TwoGroups c d) = eqb a c && eqb b d

-- within the bounds, and a whole number of steps above low; switches and numbers have the step 1
unfoldable pub permitted : Row → ℤ → Bool
permitted r v = le_z r.low v && le_z v r.high && eqb (nat_abs (v -ℤ r.low) % r.step) 0

-- the value that a program starts with: 0 where it is permitted, else the row's low
unfoldable pub start : Row → ℤ
start r = cond (permitted r (pos 0)) (pos 0) r.low

-- bounds in which a row's arithmetic stays within 64 bits
pub record RowFits (r : Row) : Type 0 where
  pub low_fits : mag r.low < 2 ^ 62
  pub high_fits : mag r.high < 2 ^ 62
  pub positive : 0 < r.step
