-- `fill_starts`: the rules of its loop.
use borrow.Author.Rules.{rules}
use Rattle.values.specs.Starts.Filling.{filling}
use Rattle.values.proofs.starts.fill_starts.Goals as goal

pub loop-k-init : goal.loop-k-init
loop-k-init c = search (filling, rules)

pub offset_bounds-values-k : goal.offset_bounds-values-k
offset_bounds-values-k c = search (filling, rules)

pub bounds-values-k : goal.bounds-values-k
bounds-values-k c = search (filling, rules)

pub loop-k-preserved : goal.loop-k-preserved
loop-k-preserved c = search (filling, rules)

pub returns : goal.returns
returns c = search (filling, rules)
