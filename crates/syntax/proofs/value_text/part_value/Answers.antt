-- `part_value`: each part has its form.
use borrow.Author.Rules.{rules}
use Rattle.syntax.specs.Value.Reading.{part-rules}
use Rattle.syntax.proofs.value_text.part_value.Goals as goal

pub returns-in-Whole : goal.returns-in-Whole
returns-in-Whole c = search (part-rules, rules)

pub returns-in-Output : goal.returns-in-Output
returns-in-Output c = search (part-rules, rules)
