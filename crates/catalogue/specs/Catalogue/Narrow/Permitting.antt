-- Rules for testing a value against a row of the table, whose numbers fit in 32 bits.
use Rattle.std.specs.Prelude.{◌≡◌, true, false, ℕ, ◌%◌, ◌^◌, ◌<◌, T, eqb, ℤ, nat_abs, ◌-ℤ◌, length}
use Rattle.std.proofs.Common.{sym, ◌∙◌, arith, eq-eqb, Fits, SFits}
use Rattle.std.specs.Int.Signed.{lt_z, non_neg}
use Rattle.std.specs.Int.{w32, w64}
use Rattle.catalogue.specs.Catalogue.{catalogue, entry_at}
use Rattle.catalogue.specs.Catalogue.Fits.{entry_fits}
use Rattle.catalogue.specs.Catalogue.Narrow.{entry_narrow}
use Rattle.catalogue.specs.declared.row.Row.{Row}
use Rattle.catalogue.specs.Row.{permitted}
use Rattle.catalogue.specs.Row.Laws.{bits, distance_below, distance_fits, distance_sign, divided, too_high, too_low}

one_divides : (n : ℕ) → n % 1 ≡ 0
one_divides n = omega arith

module _ (n : ℕ) (r : Row) (v : ℤ) (is : r ≡ (entry_at n).row) (inside : n < length catalogue) (sfit : SFits w64 v) where
  pub step-narrow : Fits w32 r.step
  step-narrow = rw is (entry_narrow n inside).step_narrow

  pub step-positive : 0 < r.step
  step-positive = rw is (entry_fits n inside).positive

  pub row_too_low : lt_z (bits v) (bits r.low) ≡ true → false ≡ permitted (entry_at n).row v
  row_too_low e = too_low (entry_at n).row v (entry_fits n inside) sfit (rw is at e)

  pub row_too_high : lt_z (bits r.high) (bits v) ≡ true → false ≡ permitted (entry_at n).row v
  row_too_high e = too_high (entry_at n).row v (entry_fits n inside) sfit (rw is at e)

  module _ (over : lt_z (bits v) (bits r.low) ≡ false) (under : lt_z (bits r.high) (bits v) ≡ false) where
    pub row_distance_fits : SFits w64 (bits v -ℤ bits r.low)
    row_distance_fits = rw is (distance_fits (entry_at n).row v (entry_fits n inside) sfit (rw is at over) (rw is at under))

    pub row_distance_sign : T (non_neg (bits (bits v -ℤ bits r.low)))
    row_distance_sign = rw is (distance_sign (entry_at n).row v (entry_fits n inside) sfit (rw is at over) (rw is at under))

    pub row_distance_narrow : Fits w32 (nat_abs (bits (bits v -ℤ bits r.low)))
    row_distance_narrow =
        rw is
        (record {
          fits =
              omega
              (arith, distance_below (entry_at n).row v (entry_fits n inside) sfit (rw is at over) (rw is at under) (2 ^ 31) (entry_narrow n inside).low_narrow.sfits (entry_narrow n inside).high_narrow.sfits);
        })

    pub row_divided : eqb (nat_abs (bits (bits v -ℤ bits r.low)) % r.step) 0 ≡ permitted (entry_at n).row v
    row_divided = rw is (divided (entry_at n).row v (entry_fits n inside) sfit (rw is at over) (rw is at under))

    pub row_unit : r.step ≡ 1 → true ≡ permitted (entry_at n).row v
    row_unit u = sym (eq-eqb (nat_abs (bits (bits v -ℤ bits r.low)) % r.step) 0 (rw u (one_divides (nat_abs (bits (bits v -ℤ bits r.low)))))) ∙ row_divided

pub ruleset narrowing = (step-narrow, step-positive, row_too_low, row_too_high, row_distance_fits, row_distance_sign, row_distance_narrow, row_divided, row_unit)
