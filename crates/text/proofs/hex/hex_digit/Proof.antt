-- `hex_digit`: a figure below ten, a letter from ten on.
use borrow.Author.Rules.{rules}
use Rattle.text.specs.Hex.Laws.{hex_made}
use Rattle.text.proofs.hex.hex_digit.Statement.{statement}
use Rattle.text.proofs.hex.hex_digit.Tie as tie

pub hex_digit_spec : {M : Type 1} → statement M
hex_digit_spec =
    tie.close
    (tie.spec
    (λ c. search rules)
    (λ c. search rules)
    (λ c. search (hex_made, rules))
    (λ c. search rules)
    (λ c. search rules)
    (λ c. search (hex_made, rules)))
