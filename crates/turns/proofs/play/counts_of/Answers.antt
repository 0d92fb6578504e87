-- `counts_of`: count after count.
use Rattle.std.proofs.Common.{rules}
use Rattle.turns.specs.Play.Counting.{counting}
use Rattle.turns.proofs.play.counts_of.Goals as goal

pub loop-i-preserved : goal.loop-i-preserved
loop-i-preserved c = search (counting, rules)

pub returns : goal.returns
returns c = search (counting, rules)
