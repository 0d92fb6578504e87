-- `module_at`: the walk passes the modules before the one asked.
use Rattle.std.proofs.Common.{◌≡◌}
use Rattle.room.specs.Table.Reached.{Reached}
use Rattle.room.proofs.table.module_at.Given as goal

abbrev pub invariant-loop-m : goal.invariant-loop-m
invariant-loop-m l =
    goal.iterator-loop-m.can_next l.m-iterator
    × goal.iterator-loop-m.is_finite l.m-iterator
    × (l.m-iterator.table.now ≡ l.table)
    × Reached l.table l.number l.m-iterator.number l.m-iterator.place l.m-iterator.first
