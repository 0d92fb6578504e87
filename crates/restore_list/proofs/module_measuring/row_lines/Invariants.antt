-- `row_lines`: the changes of the rows passed can be set, and have so many bytes and lines.
use Rattle.restore_list.specs.Measuring.Rows.{Rows}
use Rattle.restore_list.proofs.module_measuring.row_lines.Given as goal

abbrev pub invariant-loop-number : goal.invariant-loop-number
invariant-loop-number l = Rows l.table l.m l.present l.wanted l.bytes l.lines l.number
