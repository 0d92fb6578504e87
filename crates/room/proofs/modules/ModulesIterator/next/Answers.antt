-- `next`: the record at the place is the module given, and the walk goes on after it.
use borrow.Author.Rules.{rules}
use Rattle.room.specs.Table.Steps.{stepping}
use Rattle.room.specs.Table.Walk.{walking}
use Rattle.room.proofs.modules.ModulesIterator.next.Goals as goal

pub layout_at-layout-requires-clause-place_in_bounds : goal.layout_at-layout-requires-clause-place_in_bounds
layout_at-layout-requires-clause-place_in_bounds c = search (walking, rules)

pub layout_at-layout-requires-clause-place_value : goal.layout_at-layout-requires-clause-place_value
layout_at-layout-requires-clause-place_value c = search (walking, rules)

pub body_length-requires : goal.body_length-requires
body_length-requires c = search (walking, rules)

pub overflow_add-self-3 : goal.overflow_add-self-3
overflow_add-self-3 c = search (walking, rules)

pub row_count-requires : goal.row_count-requires
row_count-requires c = search (walking, rules)

pub overflow_add-self-4 : goal.overflow_add-self-4
overflow_add-self-4 c = search (walking, rules)

pub returns-clause-steps : goal.returns-clause-steps
returns-clause-steps c = search (stepping, walking, rules)

pub returns-clause-goes : goal.returns-clause-goes
returns-clause-goes c = search (stepping, walking, rules)
