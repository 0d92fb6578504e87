-- `notify`: nothing, or the reply to a get line.
use borrow.Author.Rules.{rules}
use Rattle.panel.specs.Panel.Changing.{notifying}
use Rattle.panel.proofs.notify.Statement.{statement}
use Rattle.panel.proofs.notify.Tie as tie

pub notify_spec : {M : Type 1} → statement M
notify_spec =
    tie.close
    (tie.spec
    (λ c. search (notifying, rules))  -- returns-then-before-value
    (λ c. search (notifying, rules))  -- overflow_add-label
    (λ c. search (notifying, rules))  -- bounds-table-label
    (λ c. search (notifying, rules))  -- returns-then-table-label-ne35
    (λ c κs. search (notifying, rules))  -- put_get-requires
    (λ c. search (notifying, rules))  -- shape_of-reply
    (λ c. search (notifying, rules)))  -- returns
