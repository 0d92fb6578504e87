-- `tenth_length`: a point and a digit are two bytes.
use borrow.Author.Rules.{rules}
use Rattle.text.specs.Level.Measuring.{parts}
use Rattle.text.proofs.level.tenth_length.Statement.{statement}
use Rattle.text.proofs.level.tenth_length.Tie as tie

pub tenth_length_spec : {M : Type 1} → statement M
tenth_length_spec =
    tie.close
    (tie.spec
    (λ c. search (parts, rules))
    (λ c. search (parts, rules)))
