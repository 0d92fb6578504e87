use borrow.Author.Rules.{rules}
use Rattle.text.specs.Level.Reading.{second_rules}
use Rattle.text.proofs.level.read_second.Goals as goal

pub returns-then-is_digit : goal.returns-then-is_digit
returns-then-is_digit c = search (second_rules, rules)

pub returns : goal.returns
returns c = search (second_rules, rules)
