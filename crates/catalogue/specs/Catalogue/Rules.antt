-- What the whole catalogue obeys, each rule by one test over the table: every low is under its high, every span is whole steps,
-- rows rise by type, index 1 and index 2, and within a type all indices differ.
use Rattle.std.specs.Prelude.{◌≡◌, refl, Bool, true, not, ◌&&◌, ◌||◌, ℕ, ◌%◌, ◌<◌, eqb, ltb, nat_abs, ◌-ℤ◌, length}
use Rattle.std.proofs.Common.{eqb-true, ltb-true}
use Rattle.std.specs.Int.Signed.{lt_z}
use Rattle.text.specs.Every.Laws.{both_left, both_right, every-at, pairs-at}
use Rattle.text.specs.Every.{every, pairs}
use Rattle.catalogue.specs.declared.table.Entry.{Entry}
use Rattle.catalogue.specs.Catalogue.{catalogue, entry_at, first_number, level, minus, no_entry, number, second_number, switch}
use Rattle.catalogue.specs.Row.{same_indices}
use Rattle.catalogue.specs.declared.row.Row.{Row}

-- low is below high, and the step divides the span
unfoldable pub row_right : Row → Bool
row_right r = lt_z r.low r.high && (ltb 0 r.step && eqb (nat_abs (r.high -ℤ r.low) % r.step) 0)

pub record RowRight (r : Row) : Type 0 where
  pub span : lt_z r.low r.high ≡ true
  pub positive : 0 < r.step
  pub divides : nat_abs (r.high -ℤ r.low) % r.step ≡ 0

pub row_right_lem : (r : Row) → row_right r ≡ true → RowRight r
unfolding row_right
row_right_lem r e =
    let rest = both_right (lt_z r.low r.high) _ e in
    record {
      span = both_left (lt_z r.low r.high) _ e;
      positive = ltb-true 0 r.step (both_left (ltb 0 r.step) _ rest);
      divides = eqb-true (nat_abs (r.high -ℤ r.low) % r.step) 0 (both_right (ltb 0 r.step) _ rest);
    }

entry_right : Entry → Bool
entry_right e = row_right e.row

pub catalogue-right : (n : ℕ) → n < length catalogue → RowRight (entry_at n).row
unfolding entry_right every row_right catalogue level switch number minus entry_at
catalogue-right n h = row_right_lem (entry_at n).row (every-at entry_right catalogue no_entry refl n h)

-- two rows of one type differ in their indices
unfoldable pub differ : Entry → Entry → Bool
differ e f = not (eqb e.owner f.owner && same_indices e.row.indices f.row.indices)

pub catalogue-distinct : pairs differ catalogue ≡ true
unfolding differ every pairs same_indices catalogue level switch number
catalogue-distinct = refl

pub indices-differ : (i j : ℕ) → i < j → j < length catalogue → differ (entry_at i) (entry_at j) ≡ true
unfolding entry_at
indices-differ i j h k = pairs-at differ catalogue no_entry catalogue-distinct i j h k

-- the order of rows: by type, then index 1, then index 2
unfoldable pub precedes : Entry → Entry → Bool
precedes e f =
    ltb e.owner f.owner
    || (eqb e.owner f.owner
    && (lt_z (first_number e.row.indices) (first_number f.row.indices)
    || (not (lt_z (first_number f.row.indices) (first_number e.row.indices)) && lt_z (second_number e.row.indices) (second_number f.row.indices))))

pub rows_rise : (i j : ℕ) → i < j → j < length catalogue → precedes (entry_at i) (entry_at j) ≡ true
unfolding precedes every pairs first_number second_number catalogue level switch number entry_at
rows_rise i j h k = pairs-at precedes catalogue no_entry refl i j h k
