-- `counts_right`: the counts passed are taken from the length, and the others are there.
use Rattle.connections.specs.Parts.Adding.{Taken}
use Rattle.connections.proofs.parts.counts_right.Given as goal

abbrev pub invariant-loop-count : goal.invariant-loop-count
invariant-loop-count l = Taken l.counts l.fn.bytes l.count-index l.left
