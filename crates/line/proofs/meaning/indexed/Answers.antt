-- `indexed`: the index part is right, and says the groups.
use borrow.Author.Rules.{rules}
use Rattle.line.specs.Meaning.Reading.{indexed-rules}
use Rattle.line.proofs.meaning.indexed.Goals as goal

pub returns-in-Some : goal.returns-in-Some
returns-in-Some c = search (indexed-rules, rules)

pub returns-in-None : goal.returns-in-None
returns-in-None c = search (indexed-rules, rules)
