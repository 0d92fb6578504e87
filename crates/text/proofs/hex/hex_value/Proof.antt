-- `hex_value`: a figure by its distance from `0`, a letter by that from `A`.
use borrow.Author.Rules.{rules}
use Rattle.text.specs.Hex.Laws.{hex_values}
use Rattle.text.proofs.hex.hex_value.Statement.{statement}
use Rattle.text.proofs.hex.hex_value.Tie as tie

pub hex_value_spec : {M : Type 1} → statement M
hex_value_spec =
    tie.close
    (tie.spec
    (λ c. search (hex_values, rules))
    (λ c. search rules)
    (λ c. search (hex_values, rules))
    (λ c. search (hex_values, rules))
    (λ c. search rules)
    (λ c. search rules)
    (λ c. search (hex_values, rules)))
