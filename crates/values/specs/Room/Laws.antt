-- The row by which a value is judged: what it has of the parameter's own row, and that no other value is permitted by it.
use Rattle.std.specs.Prelude.{◌≡◌, true, ℤ}
use Rattle.std.proofs.Math.Path.{refl}
use Rattle.catalogue.specs.Row.{RowFits, permitted}
use Rattle.values.specs.Room.{Room, row_in}
use Rattle.values.specs.declared.parameter.Parameter.{Parameter}

module _ (r : Room) (p : Parameter) where
  pub row_in-kind : (row_in r p).kind ≡ p.row.kind
  unfolding row_in
  row_in-kind = refl

  pub row_in-indices : (row_in r p).indices ≡ p.row.indices
  unfolding row_in
  row_in-indices = refl

  pub row_in-settable : (row_in r p).settable ≡ p.row.settable
  unfolding row_in
  row_in-settable = refl

  pub row_in-low : (row_in r p).low ≡ p.row.low
  unfolding row_in
  row_in-low = refl

  pub row_in-step : (row_in r p).step ≡ p.row.step
  unfolding row_in
  row_in-step = refl

  -- its arithmetic stays within 64 bits where the own row's does
  pub row_in-fits : RowFits p.row → RowFits (row_in r p)
  unfolding row_in
  row_in-fits h = h

  -- what it permits, the own row permits
  pub row_in-permits : (v : ℤ) → permitted (row_in r p) v ≡ true → permitted p.row v ≡ true
  unfolding row_in
  row_in-permits v h = h

  -- it is the own row. Only rules of code that judges by the own row cite this
  pub row_in-own : row_in r p ≡ p.row
  unfolding row_in
  row_in-own = refl
