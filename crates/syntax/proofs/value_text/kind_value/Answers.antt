-- `kind_value`: each kind has its form.
use borrow.Author.Rules.{rules}
use Rattle.syntax.specs.Value.Reading.{kind-rules}
use Rattle.syntax.proofs.value_text.kind_value.Goals as goal

pub returns-in-Level : goal.returns-in-Level
returns-in-Level c = search (kind-rules, rules)

pub returns-in-Switch : goal.returns-in-Switch
returns-in-Switch c = search (kind-rules, rules)

pub returns-in-Number : goal.returns-in-Number
returns-in-Number c = search (kind-rules, rules)

pub returns-in-Word : goal.returns-in-Word
returns-in-Word c = search (kind-rules, rules)
