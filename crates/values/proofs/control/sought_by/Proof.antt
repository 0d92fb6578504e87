-- `sought_by`: what each form of groups seeks.
use borrow.Author.Rules.{rules}
use Rattle.values.specs.Control.Seeking.{sought_rules}
use Rattle.values.proofs.control.sought_by.Statement.{statement}
use Rattle.values.proofs.control.sought_by.Tie as tie

pub sought_by_spec : {M : Type 1} → statement M
sought_by_spec =
    tie.close
    (tie.spec
    (λ c. search (sought_rules, rules))  -- enum_known-groups
    (λ c. search (sought_rules, rules))  -- enum_known-g
    (λ c. search (sought_rules, rules))  -- enum_told-1
    (λ c. search (sought_rules, rules))  -- enum_known-groups-in-TwoGroups-1
    (λ c. search (sought_rules, rules))  -- enum_known-g-in-TwoGroups
    (λ c. search (sought_rules, rules))  -- enum_known-h
    (λ c. search (sought_rules, rules))  -- enum_known-h-in-Single-g
    (λ c κs. search (sought_rules, rules))  -- sought_pair-requires
    (λ c. search (sought_rules, rules))  -- enum_told-in-Pair-g
    (λ c. search (sought_rules, rules))  -- returns-in-Single
    (λ c. search (sought_rules, rules))  -- returns-in-Pair
    (λ c. search (sought_rules, rules))  -- returns-in-Single-h
    (λ c. search (sought_rules, rules))  -- returns-in-Pair-h
    (λ c. search (sought_rules, rules)))  -- returns-in-Pair-g
