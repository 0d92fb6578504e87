-- `write_listed`: the lines of the rows passed were written.
use Rattle.restore_list.specs.Writing.Rows.{RowsPut}
use Rattle.restore_list.proofs.listed_writing.write_listed.Given as goal

abbrev pub invariant-loop-number : goal.invariant-loop-number
invariant-loop-number l = RowsPut l.table l.m l.present l.wanted l.initial.list l.start l.list l.at l.number
