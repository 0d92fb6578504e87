-- A permitted value is as near to 0 as its row's bounds.
use Rattle.std.specs.Prelude.{◌≡◌, true, ◌&&◌, ◌%◌, ◌^◌, ◌<◌, eqb, ℤ, nat_abs, ◌-ℤ◌}
use Rattle.std.specs.Int.Signed.{le_z, mag}
use Rattle.text.specs.Every.Laws.{both_left, both_right}
use Rattle.catalogue.specs.Row.{permitted}
use Rattle.catalogue.specs.Row.{RowFits}
use Rattle.catalogue.specs.Row.Laws.{between, bits, value_bits}
use Rattle.catalogue.specs.declared.row.Row.{Row}

pub permitted-near : (r : Row) (v : ℤ) → RowFits r → permitted r v ≡ true → mag v < 2 ^ 62
unfolding permitted
permitted-near r v fit h =
    let on_step = eqb (nat_abs (v -ℤ r.low) % r.step) 0 in
    let inside = both_left (le_z r.low v && le_z v r.high) on_step h in
    let over = both_left (le_z r.low v) (le_z v r.high) inside in
    let under = both_right (le_z r.low v) (le_z v r.high) inside in
    between (2 ^ 62) r.low v r.high fit.low_fits fit.high_fits over under

-- so that it is read back from its bits
pub permitted-bits : (r : Row) (v : ℤ) → RowFits r → permitted r v ≡ true → bits v ≡ v
permitted-bits r v fit h = value_bits v (permitted-near r v fit h)
