-- `bit_of`: the bit is shifted to the lowest place.
use borrow.Author.Rules.{rules}
use Rattle.text.specs.Word.Outputs.{output_shifted}
use Rattle.text.proofs.word.bit_of.Statement.{statement}
use Rattle.text.proofs.word.bit_of.Tie as tie

pub bit_of_spec : {M : Type 1} → statement M
bit_of_spec =
    tie.close
    (tie.spec
    (λ c. search rules)
    (λ c. search rules)
    (λ c. search (output_shifted, rules)))
