-- `next_waiting`: those passed do not wait.
use Rattle.connections.specs.Round.{waits_by}
use Rattle.connections.proofs.Laws.Round.Seeking.{Sought}
use Rattle.connections.proofs.round.next_waiting.Given as goal

abbrev pub invariant-loop-passed : goal.invariant-loop-passed
invariant-loop-passed l = Sought l.last (waits_by l.flags l.counts) l.passed
