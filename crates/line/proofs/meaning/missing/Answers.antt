-- `missing`: the label is missed before the index part.
use borrow.Author.Rules.{rules}
use Rattle.line.specs.Meaning.Reading.{missing-rules}
use Rattle.line.proofs.meaning.missing.Goals as goal

pub returns-in-Some : goal.returns-in-Some
returns-in-Some c = search (missing-rules, rules)

pub returns-in-None : goal.returns-in-None
returns-in-None c = search (missing-rules, rules)
