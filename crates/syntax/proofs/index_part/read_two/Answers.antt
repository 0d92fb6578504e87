-- `read_two`: both groups are read, or one is wrong.
use borrow.Author.Rules.{rules}
use Rattle.syntax.specs.IndexPart.Reading.{two_rules}
use Rattle.syntax.proofs.index_part.read_two.Goals as goal

pub returns-in_err-g : goal.returns-in_err-g
returns-in_err-g c = search (two_rules, rules)

pub returns-in_err-h : goal.returns-in_err-h
returns-in_err-h c = search (two_rules, rules)

pub returns : goal.returns
returns c = search (two_rules, rules)
