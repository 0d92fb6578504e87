-- `write`: the lines of the records passed were written.
use Rattle.std.proofs.Common.{◌≡◌}
use Rattle.restore_list.specs.Writing.Whole.{Puts}
use Rattle.restore_list.proofs.list.write.Given as goal

abbrev pub invariant-loop-m : goal.invariant-loop-m
invariant-loop-m l =
    goal.iterator-loop-m.can_next l.m-iterator
    × goal.iterator-loop-m.is_finite l.m-iterator
    × (l.m-iterator.table.now ≡ l.table)
    × Puts l.table l.present l.selection l.wanted l.initial.list l.list l.m-iterator.number l.m-iterator.place l.m-iterator.first l.at
