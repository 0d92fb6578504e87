-- `size_list`: nothing is measured where a test fails.
use borrow.Author.Rules.{rules}
use Rattle.std.proofs.lemmas.Result.{err_from_is_err_and}
use Rattle.restore.proofs.Laws.Demand.Calling.{testing_call}
use Rattle.restore.proofs.size_list.Goals as goal

pub returns-in_err-check_wish : goal.returns-in_err-check_wish
returns-in_err-check_wish c =
    let p = err_from_is_err_and c.from_residual.result c.from_residual.ensures.1 in
    rw (p.1, p.2) (search (testing_call, c.in_err-check_wish.ensures, rules))
