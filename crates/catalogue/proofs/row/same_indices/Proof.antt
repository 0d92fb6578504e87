-- `same_indices`: group by group.
use borrow.Author.Rules.{rules}
use Rattle.catalogue.specs.Row.Comparing.{comparing}
use Rattle.catalogue.proofs.row.same_indices.Statement.{statement}
use Rattle.catalogue.proofs.row.same_indices.Tie as tie

pub same_indices_spec : {M : Type 1} → statement M
same_indices_spec =
    tie.close
    (tie.spec
    (λ c. search (comparing, rules))  -- enum_known-a
    (λ c. search (comparing, rules))  -- enum_known-b
    (λ c. search (comparing, rules))  -- enum_told-1
    (λ c. search (comparing, rules))  -- enum_known-a-in-TwoGroups-a
    (λ c. search (comparing, rules))  -- enum_told-in-OneGroup-b-2
    (λ c. search (comparing, rules))  -- enum_known-b-in-TwoGroups
    (λ c. search (comparing, rules))  -- returns-then-x-z
    (λ c. search (comparing, rules))  -- returns-in-OneGroup-b
    (λ c. search (comparing, rules))  -- returns-in-TwoGroups-b
    (λ c. search (comparing, rules))  -- returns-in-OneGroup-b-2
    (λ c. search (comparing, rules)))  -- returns-else-x-z
