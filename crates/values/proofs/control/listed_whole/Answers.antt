-- `listed_whole`: the rules of its loop.
use borrow.Author.Rules.{rules}
use Rattle.values.specs.Control.Listed.{listed_seeking}
use Rattle.values.proofs.control.listed_whole.Goals as goal

pub loop-j-init : goal.loop-j-init
loop-j-init c = search (listed_seeking, rules)

pub returns-then-same_indices : goal.returns-then-same_indices
returns-then-same_indices c = search (listed_seeking, rules)

pub loop-j-preserved : goal.loop-j-preserved
loop-j-preserved c = search (listed_seeking, rules)

pub returns : goal.returns
returns c = search (listed_seeking, rules)
