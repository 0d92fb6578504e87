-- `put_level`: the whole part, and the tenth behind it where it is not 0.
use borrow.Author.Rules.{rules}
use Rattle.text.specs.Level.Writing.{level-writing}
use Rattle.text.proofs.level.put_level.Statement.{statement}
use Rattle.text.proofs.level.put_level.Tie as tie

pub put_level_spec : {M : Type 1} → statement M
put_level_spec =
    tie.close
    (tie.spec
    (λ c κs. search rules)
    (λ c κs. search (level-writing, rules))
    (λ c. search rules)
    (λ c. search (level-writing, rules))
    (λ c κs. search (level-writing, rules))
    (λ c. search rules)
    (λ c. search (level-writing, rules)))
