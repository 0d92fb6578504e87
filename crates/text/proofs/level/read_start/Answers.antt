use borrow.Author.Rules.{rules}
use Rattle.text.specs.Level.Reading.{start_rules}
use Rattle.text.proofs.level.read_start.Goals as goal

pub returns-then-b-eq45 : goal.returns-then-b-eq45
returns-then-b-eq45 c = search (start_rules, rules)

pub returns : goal.returns
returns c = search (start_rules, rules)
