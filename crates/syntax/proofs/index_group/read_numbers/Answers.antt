-- `read_numbers`: both numbers are read, or one is wrong.
use borrow.Author.Rules.{rules}
use Rattle.syntax.specs.IndexGroup.Reading.{number-rules}
use Rattle.syntax.proofs.index_group.read_numbers.Goals as goal

pub returns-in_err-a : goal.returns-in_err-a
returns-in_err-a c = search (number-rules, rules)

pub returns-in_err-b : goal.returns-in_err-b
returns-in_err-b c = search (number-rules, rules)

pub returns : goal.returns
returns c = search (number-rules, rules)
