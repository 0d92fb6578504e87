-- `selection_right`: each byte of the records passed is at most 1.
use Rattle.std.proofs.Common.{◌≡◌}
use Rattle.wish.specs.Target.Selecting.{Selecting}
use Rattle.wish.proofs.selection_right.Given as goal

abbrev pub invariant-loop-m : goal.invariant-loop-m
invariant-loop-m l =
    goal.iterator-loop-m.can_next l.m-iterator
    × goal.iterator-loop-m.is_finite l.m-iterator
    × (l.m-iterator.table.now ≡ l.table)
    × Selecting l.table l.selection l.m-iterator.number l.m-iterator.place
    × (l.count ≡ l.m-iterator.number)
