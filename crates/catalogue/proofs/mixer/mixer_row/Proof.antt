-- `mixer_row`: the channels of the inputs, those of the outputs, and the words.
use borrow.Author.Rules.{rules}
use Rattle.catalogue.specs.Mixer.Taking.{mixing}
use Rattle.catalogue.proofs.mixer.mixer_row.Statement.{statement}
use Rattle.catalogue.proofs.mixer.mixer_row.Tie as tie

pub mixer_row_spec : {M : Type 1} → statement M
mixer_row_spec =
    tie.close
    (tie.spec
    (λ c. search rules)  -- overflow_mul-inputs
    (λ c κs. search rules)  -- channel_row-requires
    (λ c. search (mixing, rules))  -- returns-then-k-inputs
    (λ c. search rules)  -- overflow_mul-behind
    (λ c. search rules)  -- overflow_sub-behind
    (λ c. search rules)  -- overflow_mul-outputs
    (λ c κs. search rules)  -- channel_row-requires-then-behind-outputs
    (λ c. search (mixing, rules))  -- returns-then-behind-outputs
    (λ c. search rules)  -- overflow_mul-outputs-2
    (λ c. search rules)  -- overflow_sub-behind-2
    (λ c κs. search (mixing, rules))  -- route_row-requires
    (λ c. search (mixing, rules)))  -- returns
