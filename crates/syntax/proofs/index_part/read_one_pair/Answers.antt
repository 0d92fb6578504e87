-- `read_one_pair`: the pair is read, or wrong.
use borrow.Author.Rules.{rules}
use Rattle.syntax.specs.IndexPart.Reading.{pair_rules}
use Rattle.syntax.proofs.index_part.read_one_pair.Goals as goal

pub returns-in_err-read_pair : goal.returns-in_err-read_pair
returns-in_err-read_pair c = search (pair_rules, rules)

pub returns : goal.returns
returns c = search (pair_rules, rules)
