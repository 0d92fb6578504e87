-- `read_closed`: the first `)` is the last byte.
use borrow.Author.Rules.{rules}
use Rattle.syntax.specs.IndexGroup.Reading.{closing-rules}
use Rattle.syntax.proofs.index_group.read_closed.Goals as goal

pub overflow_sub-rest : goal.overflow_sub-rest
overflow_sub-rest c = search (closing-rules, rules)

pub returns-then-rest-end-eq1 : goal.returns-then-rest-end-eq1
returns-then-rest-end-eq1 c = search (closing-rules, rules)

pub returns : goal.returns
returns c = search (closing-rules, rules)
