-- `read_group`: a number is read, or else a pair.
use borrow.Author.Rules.{rules}
use Rattle.syntax.specs.IndexGroup.Reading.{group_rules}
use Rattle.syntax.proofs.index_group.read_group.Goals as goal

pub returns-in-Some : goal.returns-in-Some
returns-in-Some c = search (group_rules, rules)

pub returns-in-None : goal.returns-in-None
returns-in-None c = search (group_rules, rules)
