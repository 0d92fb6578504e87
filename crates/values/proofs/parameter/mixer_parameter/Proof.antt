-- `mixer_parameter`: the row with the number that arithmetic says.
use borrow.Author.Rules.{rules}
use Rattle.values.specs.Parameters.Mixer.{mixed}
use Rattle.values.proofs.parameter.mixer_parameter.Statement.{statement}
use Rattle.values.proofs.parameter.mixer_parameter.Tie as tie

pub mixer_parameter_spec : {M : Type 1} → statement M
mixer_parameter_spec =
    tie.close
    (tie.spec
    (λ c. search (mixed, rules))  -- overflow_cast-inputs
    (λ c. search (mixed, rules))  -- overflow_cast-outputs
    (λ c κs. search (mixed, rules))  -- mixer_number-number-requires
    (λ c. search (mixed, rules))  -- overflow_mul-inputs
    (λ c. search (mixed, rules))  -- overflow_mul-outputs
    (λ c. search (mixed, rules))  -- overflow_add-inputs
    (λ c κs. search (mixed, rules))  -- mixer_row-row-requires
    (λ c. search (mixed, rules))  -- returns-then-number-inputs
    (λ c. search (mixed, rules)))  -- returns
