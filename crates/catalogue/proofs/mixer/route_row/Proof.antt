-- `route_row`: the last output's bit is the step.
use borrow.Author.Rules.{rules}
use Rattle.catalogue.specs.Mixer.Taking.{step-most, word_row}
use Rattle.catalogue.proofs.mixer.route_row.Statement.{statement}
use Rattle.catalogue.proofs.mixer.route_row.Tie as tie

pub route_row_spec : {M : Type 1} → statement M
route_row_spec =
    tie.close
    (tie.spec
    (λ c κs. search rules)  -- place_of-step-requires
    (λ c. search (step-most, rules))  -- overflow_sub-every
    (λ c. search rules)  -- overflow_add-result
    (λ c. search rules)  -- overflow_cast-result
    (λ c. word_row _ _ _ (search rules)))  -- returns
