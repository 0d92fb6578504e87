-- `read_one`: the number is read, or else a pair.
use borrow.Author.Rules.{rules}
use Rattle.syntax.specs.IndexPart.Reading.{one_rules}
use Rattle.syntax.proofs.index_part.read_one.Goals as goal

pub returns-in-Some : goal.returns-in-Some
returns-in-Some c = search (one_rules, rules)

pub returns-in-None : goal.returns-in-None
returns-in-None c = search (one_rules, rules)
