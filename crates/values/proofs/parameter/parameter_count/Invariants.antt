-- `parameter_count`: the first value of the next record is the number of parameters passed.
use Rattle.std.proofs.Common.{◌≡◌}
use Rattle.values.specs.Parameters.Walk.{Counted}
use Rattle.values.proofs.parameter.parameter_count.Given as goal

abbrev pub invariant-loop-m : goal.invariant-loop-m
invariant-loop-m l =
    goal.iterator-loop-m.can_next l.m-iterator
    × goal.iterator-loop-m.is_finite l.m-iterator
    × (l.m-iterator.table.now ≡ l.table)
    × Counted l.table l.m-iterator.number l.m-iterator.place l.m-iterator.first
    × (l.passed ≡ l.m-iterator.first)
