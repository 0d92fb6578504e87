-- A table has no more parameters than the limit: at most so many rows for each of at most so many records.
use Rattle.std.specs.Prelude.{◌≡◌, refl, true, List, ℕ, ◌+◌, ◌^◌, ◌≤◌, ◌<◌, length, get_or, Some}
use Rattle.std.proofs.Common.{arith}
use Rattle.catalogue.specs.Catalogue.{row_limit, rows_of}
use Rattle.record.specs.Body.{body_length}
use Rattle.record.specs.Layout.{layout_at}
use Rattle.room.specs.Table.{record_limit, sound}
use Rattle.room.specs.Table.Walk.{Walk, walk_induction}
use Rattle.values.specs.Parameters.{parameter_at, parameters}
use Rattle.values.specs.Parameters.Laws.{own-inside}
use Rattle.values.specs.Values.{value_limit}
use Rattle.values.specs.Parameters.Walk.{Counted, counted-all, counted_next, counted_start}
use Rattle.values.specs.declared.parameter.Parameter.{Parameter}

-- the walk that counts them ends at their number, which it keeps small
abbrev FewFrom : List ℕ → (number place first : ℕ) → Type 0
FewFrom t number place first = Counted t number place first → length (parameters t) ≤ value_limit

few_from : (t : List ℕ) (number place first : ℕ) → Walk t number place first → FewFrom t number place first
unfolding value_limit record_limit row_limit
few_from t = walk_induction t (FewFrom t) last more
  where
    last : (number place first : ℕ) → length t ≤ place → FewFrom t number place first
    last number place first l c = omega (arith, counted-all t number place first c l, c.walk.small, c.walk.few)

    more : (number place first : ℕ) → Walk t number place first → place < length t
        → FewFrom t (number + 1) (place + 1 + body_length (get_or t place 0)) (first + length (rows_of (layout_at t place))) → FewFrom t number place first
    more number place first w l next c =
        next (counted_next t number place first c l (body_length (get_or t place 0)) (length (rows_of (layout_at t place))) refl refl)

pub parameters-few : (t : List ℕ) → sound t ≡ true → length (parameters t) ≤ value_limit
parameters-few t h = let c = counted_start t h in few_from t 0 0 0 c.walk c

-- and so a parameter's place is small
pub place-few : (t : List ℕ) → sound t ≡ true → (k : ℕ) (p : Parameter) → parameter_at (parameters t) k ≡ Some p → k < 2 ^ 32
unfolding value_limit record_limit row_limit
place-few t h k p e = omega (arith, own-inside (parameters t) k p e, parameters-few t h)
