-- `with_sign`: a number below a thousand has its negative.
use borrow.Author.Rules.{rules}
use Rattle.text.specs.Level.Sign.{sign_given}
use Rattle.text.proofs.sign.with_sign.Statement.{statement}
use Rattle.text.proofs.sign.with_sign.Tie as tie

pub with_sign_spec : {M : Type 1} → statement M
with_sign_spec =
    tie.close
    (tie.spec
    (λ c. search rules)
    (λ c. search (sign_given, rules))
    (λ c. search (sign_given, rules))
    (λ c. search (sign_given, rules)))
