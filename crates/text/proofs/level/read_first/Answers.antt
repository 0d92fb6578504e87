use borrow.Author.Rules.{rules}
use Rattle.text.specs.Level.Reading.{first_rules}
use Rattle.text.proofs.level.read_first.Goals as goal

pub returns-then-is_digit : goal.returns-then-is_digit
returns-then-is_digit c = search (first_rules, rules)

pub returns : goal.returns
returns c = search (first_rules, rules)
