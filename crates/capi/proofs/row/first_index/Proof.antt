-- `first_index`: either case has one.
use borrow.Author.Rules.{rules}
use Rattle.capi.specs.Rows.Telling.{indexing}
use Rattle.capi.proofs.row.first_index.Statement.{statement}
use Rattle.capi.proofs.row.first_index.Tie as tie

pub first_index_spec : {M : Type 1} → statement M
first_index_spec =
    tie.close
    (tie.spec
    (λ c. search (indexing, rules))  -- enum_known-indices
    (λ c. search (indexing, rules))  -- overflow_cast-result
    (λ c. search (indexing, rules))  -- enum_known-indices-in-TwoGroups-1
    (λ c. search (indexing, rules))  -- overflow_cast-result-in-TwoGroups
    (λ c. search (indexing, rules))  -- returns-in-OneGroup
    (λ c. search (indexing, rules)))  -- returns-in-TwoGroups
