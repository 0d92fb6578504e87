-- `restore_write`: nothing is written where the list has no size, or more bytes than its buffer.
use borrow.Author.Rules.{rules}
use Rattle.std.proofs.lemmas.Result.{err_from_is_err_and}
use Rattle.restore.proofs.Laws.Demand.Calling.{writing_call}
use Rattle.restore.proofs.restore_write.Goals as goal

pub returns-in_err-size : goal.returns-in_err-size
returns-in_err-size c =
    let p = err_from_is_err_and c.from_residual.result c.from_residual.ensures.1 in
    rw (p.1, p.2) (search (writing_call, c.in_err-size.ensures, rules))

pub returns-then-list-size : goal.returns-then-list-size
returns-then-list-size c = search (writing_call, c.in_ok-size.ensures, rules)

pub returns-then-size-eq0 : goal.returns-then-size-eq0
returns-then-size-eq0 c = search (writing_call, c.in_ok-size.ensures, rules)

pub write-requires : goal.write-requires
write-requires c = search (writing_call, c.in_ok-size.ensures, rules)

pub returns : goal.returns
returns c = search (writing_call, c.in_ok-size.ensures, rules)
