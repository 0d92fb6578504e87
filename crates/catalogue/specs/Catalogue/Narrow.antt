-- The numbers of each row of the table fit in 32 bits: one test over the table.
pub mod Permitting
use Rattle.std.specs.Prelude.{◌≡◌, refl, Bool, true, ◌&&◌, ℕ, ◌^◌, ◌<◌, ltb, ℤ, pos, length}
use Rattle.std.proofs.Common.{arith, ltb-true, Fits, SFits}
use Rattle.std.specs.Int.Signed.{mag}
use Rattle.std.specs.Int.{w32}
use Rattle.text.specs.Every.{every}
use Rattle.text.specs.Every.Laws.{both_left, both_right, every-at}
use Rattle.catalogue.specs.Catalogue.{catalogue, entry_at, level, minus, no_entry, number, switch}
use Rattle.catalogue.specs.Catalogue.Each.{entry_test}
use Rattle.catalogue.specs.declared.row.Indices.{Indices}
use Rattle.catalogue.specs.declared.row.Indices.TheVariants.{OneGroup, TwoGroups}
use Rattle.catalogue.specs.declared.row.Row.{Row}

narrow_indices : Indices → Bool
narrow_indices (OneGroup a) = ltb a (2 ^ 31)
narrow_indices (TwoGroups a b) = ltb a (2 ^ 31) && ltb b (2 ^ 31)

narrow : Row → Bool
narrow r = ltb (mag r.low) (2 ^ 31) && (ltb (mag r.high) (2 ^ 31) && (ltb r.step (2 ^ 31) && narrow_indices r.indices))

catalogue-narrow : every (entry_test narrow) catalogue ≡ true
unfolding narrow narrow_indices every catalogue level switch number minus
catalogue-narrow = refl

abbrev pub NarrowIndices : Indices → Type 0
NarrowIndices (OneGroup a) = SFits w32 (pos a)
NarrowIndices (TwoGroups a b) = SFits w32 (pos a) × SFits w32 (pos b)

pub record Narrow (r : Row) : Type 0 where
  pub low_narrow : SFits w32 r.low
  pub high_narrow : SFits w32 r.high
  pub step_narrow : Fits w32 r.step
  pub step_signed : SFits w32 (pos r.step)
  pub indices_narrow : NarrowIndices r.indices

indices_small : (i : Indices) → narrow_indices i ≡ true → NarrowIndices i
unfolding narrow_indices
indices_small (OneGroup a) e = record { sfits = ltb-true a (2 ^ 31) e }
indices_small (TwoGroups a b) e =
    (record { sfits = ltb-true a (2 ^ 31) (both_left (ltb a (2 ^ 31)) _ e) }, record { sfits = ltb-true b (2 ^ 31) (both_right (ltb a (2 ^ 31)) _ e) })

narrow_row : (r : Row) → narrow r ≡ true → Narrow r
unfolding narrow
narrow_row r e =
    let rest = both_right (ltb (mag r.low) (2 ^ 31)) _ e in
    let last = both_right (ltb (mag r.high) (2 ^ 31)) _ rest in
    let step : r.step < 2 ^ 31 = ltb-true _ _ (both_left (ltb r.step (2 ^ 31)) _ last) in
    record {
      low_narrow = record { sfits = ltb-true _ _ (both_left (ltb (mag r.low) (2 ^ 31)) _ e) };
      high_narrow = record { sfits = ltb-true _ _ (both_left (ltb (mag r.high) (2 ^ 31)) _ rest) };
      step_narrow = record { fits = omega (arith, step) };
      step_signed = record { sfits = step };
      indices_narrow = indices_small r.indices (both_right (ltb r.step (2 ^ 31)) _ last);
    }

pub entry_narrow : (n : ℕ) → n < length catalogue → Narrow (entry_at n).row
unfolding entry_at
entry_narrow n h = narrow_row _ (every-at (entry_test narrow) catalogue no_entry catalogue-narrow n h)
