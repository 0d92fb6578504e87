use borrow.Author.Rules.{rules}
use Rattle.text.specs.Level.Reading.{point_rules}
use Rattle.text.proofs.level.read_point.Goals as goal

pub returns-then-b-eq46 : goal.returns-then-b-eq46
returns-then-b-eq46 c = search (point_rules, rules)

pub returns : goal.returns
returns c = search (point_rules, rules)
