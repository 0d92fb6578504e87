-- `parameter_at`: the parameters of the records passed are before the one sought.
use Rattle.std.proofs.Common.{◌≡◌}
use Rattle.values.specs.Parameters.Walk.{Passed}
use Rattle.values.proofs.parameter.parameter_at.Given as goal

abbrev pub invariant-loop-m : goal.invariant-loop-m
invariant-loop-m l =
    goal.iterator-loop-m.can_next l.m-iterator
    × goal.iterator-loop-m.is_finite l.m-iterator
    × (l.m-iterator.table.now ≡ l.table)
    × Passed l.table l.k l.m-iterator.number l.m-iterator.place l.m-iterator.first
