-- `part_start`: the counts passed are added up.
use Rattle.connections.specs.Parts.Adding.{Added}
use Rattle.connections.proofs.parts.part_start.Given as goal

abbrev pub invariant-loop-passed : goal.invariant-loop-passed
invariant-loop-passed l = Added l.counts l.fn.number l.passed l.at
