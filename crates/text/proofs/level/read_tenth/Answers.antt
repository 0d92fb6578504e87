use borrow.Author.Rules.{rules}
use Rattle.text.specs.Level.Reading.{tenth_rules}
use Rattle.text.proofs.level.read_tenth.Goals as goal

pub returns-then-is_digit : goal.returns-then-is_digit
returns-then-is_digit c = search (tenth_rules, rules)

pub returns : goal.returns
returns c = search (tenth_rules, rules)
