-- `with_bit`: the bit is there, or it is taken away or added.
use borrow.Author.Rules.{rules}
use Rattle.text.specs.Word.Outputs.{putting}
use Rattle.text.proofs.word.with_bit.Statement.{statement}
use Rattle.text.proofs.word.with_bit.Tie as tie

pub with_bit_spec : {M : Type 1} → statement M
with_bit_spec =
    tie.close
    (tie.spec
    (λ c κs. search rules)
    (λ c. search (putting, rules))
    (λ c κs. search rules)
    (λ c. search (putting, rules))
    (λ c. search (putting, rules))
    (λ c. search (putting, rules))
    (λ c. search (putting, rules)))
