-- `put_meaning`: the text says a value, or is wrong.
use borrow.Author.Rules.{rules}
use Rattle.line.specs.Meaning.Reading.{put_rules}
use Rattle.line.proofs.meaning.put_meaning.Goals as goal

pub read_value-requires-clause-row_fits : goal.read_value-requires-clause-row_fits
read_value-requires-clause-row_fits c = search (put_rules, rules)

pub read_value-requires-clause-present_value : goal.read_value-requires-clause-present_value
read_value-requires-clause-present_value c = search (put_rules, rules)

pub returns-in-Some : goal.returns-in-Some
returns-in-Some c = search (put_rules, rules)

pub returns-in-None : goal.returns-in-None
returns-in-None c = search (put_rules, rules)
