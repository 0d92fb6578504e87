-- `counts_right`: the counts passed are taken from the length, and the others are there.
use borrow.Author.Rules.{rules}
use Rattle.connections.specs.Parts.Adding.{taking}
use Rattle.connections.proofs.parts.counts_right.Goals as goal

pub returns-then-left-count : goal.returns-then-left-count
returns-then-left-count c = search (taking, rules)

pub loop-count-preserved : goal.loop-count-preserved
loop-count-preserved c = search (taking, rules)
