-- `mixer_length`: the length, the inputs, and then the outputs.
use borrow.Author.Rules.{rules}
use Rattle.record.specs.Body.Rules.{sizes}
use Rattle.record.proofs.begun.mixer_length.Statement.{statement}
use Rattle.record.proofs.begun.mixer_length.Tie as tie

pub mixer_length_spec : {M : Type 1} → statement M
mixer_length_spec =
    tie.close
    (tie.spec
    (λ c. search (sizes, rules))  -- returns-then-rest-lt34
    (λ c. search (sizes, rules))  -- bounds-rest-32
    (λ c κs. search (sizes, rules))  -- size_right-requires
    (λ c. search (sizes, rules))  -- returns-then-not-size_right
    (λ c. search (sizes, rules))  -- bounds-rest-33
    (λ c κs. search (sizes, rules))  -- size_right-requires-2
    (λ c. search (sizes, rules))  -- returns-then-not-size_right-2
    (λ c. search (sizes, rules)))  -- returns
