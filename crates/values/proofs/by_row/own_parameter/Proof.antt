-- `own_parameter`: the row is one of the module's, or there is none.
use borrow.Author.Rules.{rules}
use Rattle.values.specs.Parameters.ByRow.{by_row_lem}
use Rattle.values.proofs.by_row.own_parameter.Statement.{statement}
use Rattle.values.proofs.by_row.own_parameter.Tie as tie

pub own_parameter_spec : {M : Type 1} → statement M
own_parameter_spec =
    tie.close
    (tie.spec
    (λ c κs. search (by_row_lem, rules))  -- row_count-requires
    (λ c. search (by_row_lem, rules))  -- returns-then-row_count-number
    (λ c κs. search (by_row_lem, rules))  -- row_of-row-requires
    (λ c. search (by_row_lem, rules)))  -- returns
