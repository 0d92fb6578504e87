-- `place_of`: nothing is shifted out.
use borrow.Author.Rules.{rules}
use Rattle.text.specs.Word.Outputs.{place-shifted}
use Rattle.text.proofs.word.place_of.Statement.{statement}
use Rattle.text.proofs.word.place_of.Tie as tie

pub place_of_spec : {M : Type 1} → statement M
place_of_spec =
    tie.close
    (tie.spec
    (λ c. search rules)
    (λ c. search rules)
    (λ c. search (place-shifted, rules)))
