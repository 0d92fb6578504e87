-- `put_byte`: one store at the place, and the place behind it.
use borrow.Author.Rules.{rules}
use Rattle.text.specs.Written.Laws.{wrote_byte}
use Rattle.text.proofs.written.put_byte.Statement.{statement}
use Rattle.text.proofs.written.put_byte.Tie as tie

pub put_byte_spec : {M : Type 1} → statement M
put_byte_spec =
    tie.close
    (tie.spec
    (λ c. search rules)
    (λ c. search rules)
    (λ c. search rules)
    (λ c. search (wrote_byte, rules)))
