-- `group_number`: each group begins behind those before it.
use borrow.Author.Rules.{rules}
use Rattle.catalogue.specs.Mixer.Taking.{grouped, no_number}
use Rattle.catalogue.proofs.mixer.group_number.Statement.{statement}
use Rattle.catalogue.proofs.mixer.group_number.Tie as tie

pub group_number_spec : {M : Type 1} → statement M
group_number_spec =
    tie.close
    (tie.spec
    (λ c. search rules)  -- overflow_mul-count
    (λ c. search rules)  -- overflow_mul-count-2
    (λ c. search rules)  -- overflow_add-count
    (λ c. search rules)  -- overflow_mul-inputs
    (λ c κs. search rules)  -- within-requires
    (λ c. search rules)  -- overflow_mul-inputs-in-2
    (λ c. search rules)  -- overflow_mul-outputs
    (λ c κs. search rules)  -- within-requires-in-2
    (λ c. search rules)  -- overflow_mul-inputs-in-3
    (λ c. search rules)  -- overflow_mul-outputs-in-3
    (λ c. search rules)  -- overflow_add-inputs
    (λ c κs. search rules)  -- within-requires-in-3
    (λ c. search (grouped, rules))  -- returns-in-1
    (λ c. search (grouped, rules))  -- returns-in-2
    (λ c. search (grouped, rules))  -- returns-in-3
    (λ c. no_number _ _ _ _ (search rules) (search rules) (search rules)))  -- returns-in_default
