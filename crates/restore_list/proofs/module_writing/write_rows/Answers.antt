-- `write_rows`: the rules of its loop.
use borrow.Author.Rules.{rules}
use Rattle.restore_list.specs.Writing.Rows.{row_putting}
use Rattle.restore_list.proofs.module_writing.write_rows.Goals as goal

pub loop-number-init : goal.loop-number-init
loop-number-init c = search (row_putting, rules)

pub offset_bounds-wanted-number : goal.offset_bounds-wanted-number
offset_bounds-wanted-number c = search (row_putting, rules)

pub bounds-wanted-number : goal.bounds-wanted-number
bounds-wanted-number c = search (row_putting, rules)

pub loop-number-preserved-then-from-to : goal.loop-number-preserved-then-from-to
loop-number-preserved-then-from-to c = search (row_putting, rules)

pub row_of-requires : goal.row_of-requires
row_of-requires c = search (row_putting, rules)

pub write_line-at-requires : goal.write_line-at-requires
write_line-at-requires c = search (row_putting, rules)

pub loop-number-preserved : goal.loop-number-preserved
loop-number-preserved c = search (row_putting, rules)

pub shape_of-list : goal.shape_of-list
shape_of-list c = search (row_putting, rules)

pub returns : goal.returns
returns c = search (row_putting, rules)
