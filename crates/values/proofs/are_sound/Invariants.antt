-- `are_sound`: the values of the records passed are permitted.
use Rattle.std.proofs.Common.{◌≡◌}
use Rattle.values.specs.Room.{room_of}
use Rattle.values.specs.Values.Fitting.{Fitting}
use Rattle.values.proofs.are_sound.Given as goal

abbrev pub invariant-loop-m : goal.invariant-loop-m
invariant-loop-m l =
    goal.iterator-loop-m.can_next l.m-iterator
    × goal.iterator-loop-m.is_finite l.m-iterator
    × (l.m-iterator.table.now ≡ l.table)
    × Fitting (room_of l.table) l.values l.m-iterator.number l.m-iterator.place l.m-iterator.first
    × (l.end ≡ l.m-iterator.first)
