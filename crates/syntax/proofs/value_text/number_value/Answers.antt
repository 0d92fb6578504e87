-- `number_value`: the number is read, or wrong.
use borrow.Author.Rules.{rules}
use Rattle.syntax.specs.Value.Reading.{number-rules}
use Rattle.syntax.proofs.value_text.number_value.Goals as goal

pub returns-in_err-read_number : goal.returns-in_err-read_number
returns-in_err-read_number c = search (number-rules, rules)

pub overflow_cast-result : goal.overflow_cast-result
overflow_cast-result c = search (number-rules, rules)

pub returns : goal.returns
returns c = search (number-rules, rules)
