use borrow.Author.Rules.{rules}
use Rattle.text.specs.Level.Passed.{level_rules}
use Rattle.text.proofs.level.read_level.Goals as goal

pub loop-b-preserved : goal.loop-b-preserved
loop-b-preserved c = search (level_rules, rules)
