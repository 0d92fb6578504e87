-- `fixed_count`: the number of each type is a place of the table, and what stands there counts its rows.
use Rattle.std.specs.Prelude.{◌≡◌, refl, [], ◌∷◌, ◌<◌, length, slice_index_or}
use Rattle.std.proofs.Common.{arith}
use Rattle.catalogue.specs.Catalogue.{catalogue, level, minus, number, rows_in, switch}
use Rattle.catalogue.specs.Catalogue.Laws.{each_type}
use Rattle.catalogue.proofs.fixed_count.Goals as goal

pub bounds-kind : goal.bounds-kind
bounds-kind c =
    each_type (λ k. k < 7) (omega arith) (omega arith) (omega arith) (omega arith) (omega arith) (omega arith) c.args.kind c.requires

pub returns : goal.returns
unfolding rows_in catalogue level switch number minus
returns c =
    each_type (λ k. slice_index_or (0 ∷ 6 ∷ 1 ∷ 1 ∷ 7 ∷ 33 ∷ 2 ∷ []) k 0 ≡ length (rows_in k catalogue)) refl refl refl refl refl refl
    c.args.kind c.requires
