-- `put_whole`: the sign, and the digits behind it.
use borrow.Author.Rules.{rules}
use Rattle.text.specs.Level.Writing.{whole-writing}
use Rattle.text.proofs.level.put_whole.Statement.{statement}
use Rattle.text.proofs.level.put_whole.Tie as tie

pub put_whole_spec : {M : Type 1} → statement M
put_whole_spec =
    tie.close
    (tie.spec
    (λ c κs. search (whole-writing, rules))
    (λ c κs. search rules)
    (λ c κs. search (whole-writing, rules))
    (λ c. search rules)
    (λ c. search (whole-writing, rules)))
