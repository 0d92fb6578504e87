-- `body_length`: a mixer's body has two bytes more.
use borrow.Author.Rules.{rules}
use Rattle.record.specs.Body.Rules.{lengths}
use Rattle.record.proofs.body.body_length.Statement.{statement}
use Rattle.record.proofs.body.body_length.Tie as tie

pub body_length_spec : {M : Type 1} → statement M
body_length_spec =
    tie.close
    (tie.spec
    (λ c κs. search (lengths, rules))  -- is_fixed-requires
    (λ c. search (lengths, rules))  -- returns-then-is_fixed
    (λ c. search (lengths, rules)))  -- returns
