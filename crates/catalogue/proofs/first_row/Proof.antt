-- `first_row`: each arm names a type, and the rows before it are counted by computation.
use mathlib.Core.Path.{refl}
use Rattle.catalogue.specs.Catalogue.{catalogue, first_row, level, minus, number, rows_before, switch}
use Rattle.catalogue.specs.Catalogue.Laws.{at-type, no_other}
use borrow.Author.Rules.{rules}
use Rattle.catalogue.proofs.first_row.Statement.{statement}
use Rattle.catalogue.proofs.first_row.Tie as tie

pub first_row_spec : {M : Type 1} → statement M
unfolding first_row rows_before catalogue level switch number minus
first_row_spec =
    tie.close
    (tie.spec
    (λ c. at-type first_row _ 1 0 c.in-1.is refl)
    (λ c. at-type first_row _ 2 6 c.in-2.is refl)
    (λ c. at-type first_row _ 3 7 c.in-3.is refl)
    (λ c. at-type first_row _ 4 8 c.in-4.is refl)
    (λ c. at-type first_row _ 5 15 c.in-5.is refl)
    (λ c. at-type first_row _ 6 48 c.in-6.is refl)
    (λ c. no_other _ c.requires (search rules) (search rules) (search rules) (search rules) (search rules) (search rules)))
