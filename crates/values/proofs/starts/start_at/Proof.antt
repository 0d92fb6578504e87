-- `start_at`: the parameter's row says its start value.
use borrow.Author.Rules.{rules}
use Rattle.values.specs.Starts.Filling.{one_start}
use Rattle.values.proofs.starts.start_at.Statement.{statement}
use Rattle.values.proofs.starts.start_at.Tie as tie

pub start_at_spec : {M : Type 1} → statement M
start_at_spec =
    tie.close
    (tie.spec
    (λ c κs. search (one_start, rules))  -- parameter_at-requires
    (λ c. search (one_start, rules))  -- enum_known-p
    (λ c κs. search (one_start, rules))  -- start_of-requires
    (λ c. search (one_start, rules))  -- enum_told-1
    (λ c. search (one_start, rules))  -- returns-in-At
    (λ c. search (one_start, rules)))  -- returns-in-Nothing
