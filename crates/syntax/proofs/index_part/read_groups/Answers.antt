-- `read_groups`: a second `>` parts two groups.
use borrow.Author.Rules.{rules}
use Rattle.syntax.specs.IndexPart.Reading.{groups-rules}
use Rattle.syntax.proofs.index_part.read_groups.Goals as goal

pub returns-then-arrow-s : goal.returns-then-arrow-s
returns-then-arrow-s c = search (groups-rules, rules)

pub returns : goal.returns
returns c = search (groups-rules, rules)
