-- `magnitude`: below 0 the number is turned one step up, so that the lowest one can be turned too.
use borrow.Author.Rules.{rules}
use Rattle.text.specs.Level.Sign.{sizes}
use Rattle.text.proofs.sign.magnitude.Statement.{statement}
use Rattle.text.proofs.sign.magnitude.Tie as tie

pub magnitude_spec : {M : Type 1} → statement M
magnitude_spec =
    tie.close
    (tie.spec
    (λ c. search (sizes, rules))
    (λ c. search (sizes, rules))
    (λ c. search (sizes, rules))
    (λ c. search (sizes, rules))
    (λ c. search (sizes, rules))
    (λ c. search (sizes, rules))
    (λ c. search rules))
