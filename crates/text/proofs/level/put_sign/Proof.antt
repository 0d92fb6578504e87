-- `put_sign`: the sign is one byte or none.
use borrow.Author.Rules.{rules}
use Rattle.text.specs.Level.Writing.{sign_writing}
use Rattle.text.proofs.level.put_sign.Statement.{statement}
use Rattle.text.proofs.level.put_sign.Tie as tie

pub put_sign_spec : {M : Type 1} → statement M
put_sign_spec =
    tie.close
    (tie.spec
    (λ c. search (sign_writing, rules))
    (λ c κs. search (sign_writing, rules))
    (λ c. search rules)
    (λ c. search (sign_writing, rules)))
