-- `put_switch`: the text is one byte.
use borrow.Author.Rules.{rules}
use Rattle.text.specs.Switch.Writing.{switch-writing}
use Rattle.text.proofs.switch.put_switch.Statement.{statement}
use Rattle.text.proofs.switch.put_switch.Tie as tie

pub put_switch_spec : {M : Type 1} → statement M
put_switch_spec =
    tie.close
    (tie.spec
    (λ c κs. search (switch-writing, rules))
    (λ c. search rules)
    (λ c. search (switch-writing, rules))
    (λ c κs. search (switch-writing, rules))
    (λ c. search rules)
    (λ c. search (switch-writing, rules)))
