-- `get_line`: what is named is told, and else a code.
use borrow.Author.Rules.{rules}
use Rattle.line.specs.Meaning.Reading.{get_rules}
use Rattle.line.proofs.meaning.get_line.Goals as goal

pub returns-in-Some : goal.returns-in-Some
returns-in-Some c = search (get_rules, rules)

pub returns-in-None : goal.returns-in-None
returns-in-None c = search (get_rules, rules)
