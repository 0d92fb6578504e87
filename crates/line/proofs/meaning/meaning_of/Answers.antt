-- `meaning_of`: each shape has its parts.
use borrow.Author.Rules.{rules}
use Rattle.line.specs.Meaning.Reading.{meaning-rules}
use Rattle.line.proofs.meaning.meaning_of.Goals as goal

pub get_line-requires : goal.get_line-requires
get_line-requires c = search (meaning-rules, rules)

pub set_line-requires-clause-close_lt_equal : goal.set_line-requires-clause-close_lt_equal
set_line-requires-clause-close_lt_equal c = search (meaning-rules, rules)

pub returns-in-Err : goal.returns-in-Err
returns-in-Err c = search (meaning-rules, rules)

pub returns-in-Ok-Get : goal.returns-in-Ok-Get
returns-in-Ok-Get c = search (meaning-rules, rules)

pub returns-in-Ok-Set : goal.returns-in-Ok-Set
returns-in-Ok-Set c = search (meaning-rules, rules)
