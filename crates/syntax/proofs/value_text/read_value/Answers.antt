-- `read_value`: the row may be set, the form is right, and the value is permitted.
use borrow.Author.Rules.{rules}
use Rattle.syntax.specs.Value.Reading.{value_rules}
use Rattle.syntax.proofs.value_text.read_value.Goals as goal

pub returns-then-not-row : goal.returns-then-not-row
returns-then-not-row c = search (value_rules, rules)

pub part_value-requires-clause-present_bound : goal.part_value-requires-clause-present_bound
part_value-requires-clause-present_bound c = search (value_rules, rules)

pub returns-in_err-v : goal.returns-in_err-v
returns-in_err-v c = search (value_rules, rules)

pub returns-then-permits : goal.returns-then-permits
returns-then-permits c = search (value_rules, rules)

pub returns-else-permits : goal.returns-else-permits
returns-else-permits c = search (value_rules, rules)
