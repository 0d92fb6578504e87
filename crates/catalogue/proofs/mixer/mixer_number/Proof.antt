-- `mixer_number`: two groups, or no row.
use borrow.Author.Rules.{rules}
use Rattle.catalogue.specs.Mixer.Taking.{numbering}
use Rattle.catalogue.proofs.mixer.mixer_number.Statement.{statement}
use Rattle.catalogue.proofs.mixer.mixer_number.Tie as tie

pub mixer_number_spec : {M : Type 1} → statement M
mixer_number_spec =
    tie.close
    (tie.spec
    (λ c. search rules)  -- enum_told-1
    (λ c. search rules)  -- overflow_mul-result
    (λ c. search rules)  -- overflow_mul-result-in-OneGroup
    (λ c. search rules)  -- overflow_add-result
    (λ c. search rules)  -- enum_known-indices
    (λ c κs. search rules)  -- group_number-requires
    (λ c. search (numbering, rules))  -- returns-in-OneGroup
    (λ c. search (numbering, rules)))  -- returns-in-TwoGroups
