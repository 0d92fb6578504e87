-- `listed_lines`: the rules of its loop.
use borrow.Author.Rules.{rules}
use Rattle.restore_list.specs.Measuring.Rows.{listed_measuring}
use Rattle.restore_list.proofs.listed_measuring.listed_lines.Goals as goal

pub loop-number-init : goal.loop-number-init
loop-number-init c = search (listed_measuring, rules)

pub offset_bounds-wanted-number : goal.offset_bounds-wanted-number
offset_bounds-wanted-number c = search (listed_measuring, rules)

pub bounds-wanted-number : goal.bounds-wanted-number
bounds-wanted-number c = search (listed_measuring, rules)

pub loop-number-preserved-then-from-to : goal.loop-number-preserved-then-from-to
loop-number-preserved-then-from-to c = search (listed_measuring, rules)

pub listed_row-row-requires : goal.listed_row-row-requires
listed_row-row-requires c = search (listed_measuring, rules)

pub returns-then-not-row : goal.returns-then-not-row
returns-then-not-row c = search (listed_measuring, rules)

pub overflow_add-bytes : goal.overflow_add-bytes
overflow_add-bytes c = search (listed_measuring, rules)

pub overflow_add-lines : goal.overflow_add-lines
overflow_add-lines c = search (listed_measuring, rules)

pub loop-number-preserved : goal.loop-number-preserved
loop-number-preserved c = search (listed_measuring, rules)

pub returns : goal.returns
returns c = search (listed_measuring, rules)
