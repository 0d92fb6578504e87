-- `change_found`: 3 before 9, and else the change.
use borrow.Author.Rules.{rules}
use Rattle.std.proofs.lemmas.Result.{err_from_is_err_and}
use Rattle.panel.specs.Panel.Calling.{changing}
use Rattle.panel.proofs.change_found.Goals as goal

pub returns-in_err-check_reply : goal.returns-in_err-check_reply
returns-in_err-check_reply c =
    let p = err_from_is_err_and c.from_residual.result c.from_residual.ensures.1 in
    rw (p.1, p.2) (search (changing, c.in_err-check_reply.ensures, rules))

pub returns-in_err-check_change : goal.returns-in_err-check_change
returns-in_err-check_change c =
    let p = err_from_is_err_and c.from_residual-in_err-check_change.result c.from_residual-in_err-check_change.ensures.1 in
    rw (p.1, p.2) (search (changing, c.in_ok-check_reply.ensures, c.in_err-check_change.ensures, rules))

pub notify-requires-clause-tellable : goal.notify-requires-clause-tellable
notify-requires-clause-tellable c = search (changing, rules)

pub notify-requires-clause-in_bounds : goal.notify-requires-clause-in_bounds
notify-requires-clause-in_bounds c = search (changing, c.in_ok-check_reply.ensures, rules)

pub returns : goal.returns
returns c = search (changing, c.in_ok-check_reply.ensures, c.in_ok-check_change.ensures, rules)

pub returns-in_default : goal.returns-in_default
returns-in_default c = search (changing, c.in_ok-check_reply.ensures, c.in_ok-check_change.ensures, rules)
