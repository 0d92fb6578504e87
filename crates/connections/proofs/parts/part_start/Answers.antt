-- `part_start`: nothing is added up yet.
use Rattle.connections.specs.Parts.Adding.{added_start}
use Rattle.connections.proofs.parts.part_start.Goals as goal

pub loop-passed-init : goal.loop-passed-init
loop-passed-init c = added_start c.args.counts.now c.args.number
