-- `row_numbers`: each column told.
use borrow.Author.Rules.{rules}
use Rattle.capi.specs.Rows.Telling.{numbering}
use Rattle.capi.proofs.row.row_numbers.Statement.{statement}
use Rattle.capi.proofs.row.row_numbers.Tie as tie

pub row_numbers_spec : {M : Type 1} → statement M
row_numbers_spec =
    tie.close
    (tie.spec
    (λ c κs. search (numbering, rules))  -- first_index-first-requires
    (λ c κs. search (numbering, rules))  -- second_index-second-requires
    (λ c κs. search (numbering, rules))  -- kind_number-number-requires
    (λ c. search (numbering, rules))  -- overflow_cast-step
    (λ c. search (numbering, rules))  -- returns-then-row
    (λ c. search (numbering, rules)))  -- returns
