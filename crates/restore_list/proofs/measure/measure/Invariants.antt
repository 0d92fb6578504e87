-- `measure`: the changes of the records passed are within reach, and have so many bytes and lines.
use Rattle.std.proofs.Common.{◌≡◌}
use Rattle.restore_list.specs.Measuring.Whole.{Sums}
use Rattle.restore_list.proofs.measure.measure.Given as goal

abbrev pub invariant-loop-m : goal.invariant-loop-m
invariant-loop-m l =
    goal.iterator-loop-m.can_next l.m-iterator
    × goal.iterator-loop-m.is_finite l.m-iterator
    × (l.m-iterator.table.now ≡ l.table)
    × Sums l.table l.present l.selection l.wanted l.m-iterator.number l.m-iterator.place l.m-iterator.first l.bytes l.lines
