-- Every row's arithmetic stays within 64 bits: one test over the table.
use Rattle.std.specs.Prelude.{◌≡◌, refl, Bool, true, ◌&&◌, ℕ, ◌^◌, ◌<◌, ltb, length}
use Rattle.std.proofs.Common.{ltb-true}
use Rattle.std.specs.Int.Signed.{mag}
use Rattle.text.specs.Every.Laws.{both_left, both_right, every-at}
use Rattle.text.specs.Every.{every}
use Rattle.catalogue.specs.Catalogue.{catalogue, entry_at, level, minus, no_entry, number, switch}
use Rattle.catalogue.specs.Catalogue.Each.{entry_test}
use Rattle.catalogue.specs.Row.{RowFits}
use Rattle.catalogue.specs.declared.row.Row.{Row}

unfoldable pub fits : Row → Bool
fits r = ltb (mag r.low) (2 ^ 62) && (ltb (mag r.high) (2 ^ 62) && ltb 0 r.step)

pub row_fits : (r : Row) → fits r ≡ true → RowFits r
unfolding fits
row_fits r e =
    let rest = both_right (ltb (mag r.low) (2 ^ 62)) _ e in
    record {
      low_fits = ltb-true _ _ (both_left (ltb (mag r.low) (2 ^ 62)) _ e);
      high_fits = ltb-true _ _ (both_left (ltb (mag r.high) (2 ^ 62)) _ rest);
      positive = ltb-true _ _ (both_right (ltb (mag r.high) (2 ^ 62)) _ rest);
    }

pub catalogue-fits : every (entry_test fits) catalogue ≡ true
unfolding fits every catalogue level switch number minus
catalogue-fits = refl

pub entry_fits : (n : ℕ) → n < length catalogue → RowFits (entry_at n).row
unfolding entry_at
entry_fits n h = row_fits _ (every-at (entry_test fits) catalogue no_entry catalogue-fits n h)
