-- `write_listed`: the rules of its loop.
use borrow.Author.Rules.{rules}
use Rattle.restore_list.specs.Writing.Rows.{listed_putting}
use Rattle.restore_list.proofs.listed_writing.write_listed.Goals as goal

pub loop-number-init : goal.loop-number-init
loop-number-init c = search (listed_putting, rules)

pub offset_bounds-wanted-number : goal.offset_bounds-wanted-number
offset_bounds-wanted-number c = search (listed_putting, rules)

pub bounds-wanted-number : goal.bounds-wanted-number
bounds-wanted-number c = search (listed_putting, rules)

pub loop-number-preserved-then-from-to : goal.loop-number-preserved-then-from-to
loop-number-preserved-then-from-to c = search (listed_putting, rules)

pub listed_row-requires : goal.listed_row-requires
listed_row-requires c = search (listed_putting, rules)

pub write_whole-at-requires : goal.write_whole-at-requires
write_whole-at-requires c = search (listed_putting, rules)

pub loop-number-preserved : goal.loop-number-preserved
loop-number-preserved c = search (listed_putting, rules)

pub shape_of-list : goal.shape_of-list
shape_of-list c = search (listed_putting, rules)

pub returns : goal.returns
returns c = search (listed_putting, rules)
