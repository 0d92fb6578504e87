-- `sum_of`: at most 255 for each count passed.
use Rattle.std.proofs.Common.{◌*◌, ◌≤◌}
use Rattle.turns.proofs.command.sum_of.Given as goal

abbrev pub invariant-loop-count : goal.invariant-loop-count
invariant-loop-count l = l.sum ≤ 255 * l.count-index
