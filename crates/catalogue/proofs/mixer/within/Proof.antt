-- `within`: the index is 0, past the group, or in it.
use borrow.Author.Rules.{rules}
use Rattle.catalogue.specs.Mixer.Taking.{finding}
use Rattle.catalogue.proofs.mixer.within.Statement.{statement}
use Rattle.catalogue.proofs.mixer.within.Tie as tie

pub within_spec : {M : Type 1} → statement M
within_spec =
    tie.close
    (tie.spec
    (λ c. search (finding, rules))  -- returns-then-j-lt1
    (λ c. search (finding, rules))  -- returns-then-size-j
    (λ c. search rules)  -- overflow_add-result
    (λ c. search (finding, rules)))  -- returns
