-- `egrivundo_log`: the part that `log_part` found, told by its place and its length.
use Rattle.std.proofs.Common.{rules}
use Rattle.capi.specs.Log.Telling.{telling}
use Rattle.capi.proofs.egrivundo_log.Goals as goal

pub overflow_sub-told : goal.overflow_sub-told
overflow_sub-told c = search (telling, rules)

pub overflow_sub-told-in-Some-Line : goal.overflow_sub-told-in-Some-Line
overflow_sub-told-in-Some-Line c = search (telling, rules)

pub returns-in-Some-Table : goal.returns-in-Some-Table
returns-in-Some-Table c = search (telling, rules)

pub returns-in-Some-Line : goal.returns-in-Some-Line
returns-in-Some-Line c = search (telling, rules)

pub returns-in-None : goal.returns-in-None
returns-in-None c = search (telling, rules)
