-- `put_tenth`: a point, and the digit behind it.
use borrow.Author.Rules.{rules}
use Rattle.text.specs.Level.Writing.{tenth_writing}
use Rattle.text.proofs.level.put_tenth.Statement.{statement}
use Rattle.text.proofs.level.put_tenth.Tie as tie

pub put_tenth_spec : {M : Type 1} → statement M
put_tenth_spec =
    tie.close
    (tie.spec
    (λ c κs. search rules)
    (λ c. search rules)
    (λ c. search rules)
    (λ c κs. search (tenth_writing, rules))
    (λ c. search rules)
    (λ c. search (tenth_writing, rules)))
