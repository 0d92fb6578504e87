-- `wanted_right`: the entries of the records passed are right.
use Rattle.std.proofs.Common.{◌≡◌}
use Rattle.values.specs.Room.{room_of}
use Rattle.wish.specs.Target.Wanting.{Wanting}
use Rattle.wish.proofs.wanted_right.Given as goal

abbrev pub invariant-loop-m : goal.invariant-loop-m
invariant-loop-m l =
    goal.iterator-loop-m.can_next l.m-iterator
    × goal.iterator-loop-m.is_finite l.m-iterator
    × (l.m-iterator.table.now ≡ l.table)
    × Wanting (room_of l.table) l.selection l.wanted l.m-iterator.number l.m-iterator.place l.m-iterator.first
    × (l.end ≡ l.m-iterator.first)
