-- `write_rows`: the lines of the rows passed were written.
use Rattle.restore_list.specs.Writing.Rows.{RowsPut}
use Rattle.restore_list.proofs.module_writing.write_rows.Given as goal

abbrev pub invariant-loop-number : goal.invariant-loop-number
invariant-loop-number l = RowsPut l.table l.m l.present l.wanted l.initial.list l.start l.list l.at l.number
