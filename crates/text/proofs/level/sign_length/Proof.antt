-- `sign_length`: a `-` is one byte.
use borrow.Author.Rules.{rules}
use Rattle.text.specs.Level.Measuring.{parts}
use Rattle.text.proofs.level.sign_length.Statement.{statement}
use Rattle.text.proofs.level.sign_length.Tie as tie

pub sign_length_spec : {M : Type 1} → statement M
sign_length_spec =
    tie.close
    (tie.spec
    (λ c. search (parts, rules))
    (λ c. search (parts, rules)))
