-- `label_length`: the label ends at its field's first zero byte.
use borrow.Author.Rules.{rules}
use Rattle.room.specs.Label.Match.{label-counted}
use Rattle.room.proofs.label.label_length.Statement.{statement}
use Rattle.room.proofs.label.label_length.Tie as tie

pub label_length_spec : {M : Type 1} → statement M
label_length_spec =
    tie.close
    (tie.spec
    (λ c. search rules)
    (λ c. search rules)
    (λ c. search rules)
    (λ c. search rules)
    (λ c. search rules)
    (λ c κs. search rules)
    (λ c. search (label-counted, rules)))
