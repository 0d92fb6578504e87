-- `mixer_permits`: a channel's row, or a word.
use borrow.Author.Rules.{rules}
use Rattle.catalogue.specs.Mixer.Permitting.{judging}
use Rattle.catalogue.proofs.mixer.mixer_permits.Statement.{statement}
use Rattle.catalogue.proofs.mixer.mixer_permits.Tie as tie

pub mixer_permits_spec : {M : Type 1} → statement M
mixer_permits_spec =
    tie.close
    (tie.spec
    (λ c. search (judging, rules))  -- overflow_mul-inputs
    (λ c. search (judging, rules))  -- overflow_mul-outputs
    (λ c. search (judging, rules))  -- overflow_add-inputs
    (λ c κs. search (judging, rules))  -- channel_permits-requires
    (λ c. search (judging, rules))  -- returns-then-k-inputs
    (λ c κs. search (judging, rules))  -- route_row-requires
    (λ c κs. search (judging, rules))  -- permits-requires
    (λ c. search (judging, rules)))  -- returns
