-- `sought_pair`: the first group is 4, or not.
use borrow.Author.Rules.{rules}
use Rattle.values.specs.Control.Seeking.{pair_rules}
use Rattle.values.proofs.control.sought_pair.Statement.{statement}
use Rattle.values.proofs.control.sought_pair.Tie as tie

pub sought_pair_spec : {M : Type 1} → statement M
sought_pair_spec =
    tie.close
    (tie.spec
    (λ c. search (pair_rules, rules))  -- returns-then-first-eq4
    (λ c. search (pair_rules, rules)))  -- returns
