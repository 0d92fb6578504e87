-- `level_length`: the sum of the lengths of its three parts.
use borrow.Author.Rules.{rules}
use Rattle.text.specs.Level.Measuring.{level-lengths}
use Rattle.text.proofs.level.level_length.Statement.{statement}
use Rattle.text.proofs.level.level_length.Tie as tie

pub level_length_spec : {M : Type 1} → statement M
level_length_spec =
    tie.close
    (tie.spec
    (λ c κs. search rules)
    (λ c κs. search rules)
    (λ c κs. search rules)
    (λ c. search (level-lengths, rules))
    (λ c κs. search rules)
    (λ c. search (level-lengths, rules))
    (λ c. search (level-lengths, rules)))
