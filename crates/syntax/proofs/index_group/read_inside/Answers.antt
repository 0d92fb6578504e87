-- `read_inside`: the first comma parts two numbers.
use borrow.Author.Rules.{rules}
use Rattle.syntax.specs.IndexGroup.Reading.{comma_rules}
use Rattle.syntax.proofs.index_group.read_inside.Goals as goal

pub returns-then-comma-s : goal.returns-then-comma-s
returns-then-comma-s c = search (comma_rules, rules)

pub returns : goal.returns
returns c = search (comma_rules, rules)
