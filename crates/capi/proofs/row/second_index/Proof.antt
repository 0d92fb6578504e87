-- `second_index`: told, or -1.
use borrow.Author.Rules.{rules}
use Rattle.capi.specs.Rows.Telling.{indexing}
use Rattle.capi.proofs.row.second_index.Statement.{statement}
use Rattle.capi.proofs.row.second_index.Tie as tie

pub second_index_spec : {M : Type 1} → statement M
second_index_spec =
    tie.close
    (tie.spec
    (λ c. search (indexing, rules))  -- enum_told-1
    (λ c. search (indexing, rules))  -- enum_known-indices
    (λ c. search (indexing, rules))  -- overflow_cast-result
    (λ c. search (indexing, rules))  -- returns-in-OneGroup
    (λ c. search (indexing, rules)))  -- returns-in-TwoGroups
