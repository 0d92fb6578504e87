-- A row's indices are small.
use Rattle.std.specs.Prelude.{◌≡◌, true, ℕ, ◌<◌, ltb}
use Rattle.std.proofs.Common.{ltb-true}
use Rattle.text.specs.Every.Laws.{both_left, both_right}
use Rattle.catalogue.specs.Catalogue.Sized.{sized_bounds, sized_indices, sized_row}
use Rattle.catalogue.specs.declared.row.Indices.{Indices}
use Rattle.catalogue.specs.declared.row.Indices.TheVariants.{OneGroup, TwoGroups}
use Rattle.catalogue.specs.declared.row.Row.{Row}

pub data Small : Indices → Type 0 where
  one : (a : ℕ) → a < 1000 → Small (OneGroup a)
  two : (a b : ℕ) → a < 10 → b < 100 → Small (TwoGroups a b)

pub indices-small : (i : Indices) → sized_indices i ≡ true → Small i
unfolding sized_indices
indices-small (OneGroup a) h = one a (ltb-true a 1000 h)
indices-small (TwoGroups a b) h =
    two a b (ltb-true a 10 (both_left (ltb a 10) (ltb b 100) h)) (ltb-true b 100 (both_right (ltb a 10) (ltb b 100) h))

pub row_indices : (r : Row) → sized_row r ≡ true → sized_indices r.indices ≡ true
unfolding sized_row
row_indices r h = both_left (sized_indices r.indices) (sized_bounds r.kind r.low r.high) h
