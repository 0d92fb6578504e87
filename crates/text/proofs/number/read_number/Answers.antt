use borrow.Author.Rules.{rules}
use Rattle.text.specs.Number.Passed.{passing}
use Rattle.text.proofs.number.read_number.Goals as goal

pub loop-b-preserved : goal.loop-b-preserved
loop-b-preserved c = search (passing, rules)
