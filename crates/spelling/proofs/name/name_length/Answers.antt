-- `name_length`: two quotes, the label and the index groups.
use borrow.Author.Rules.{rules}
use Rattle.spelling.specs.Name.Measuring.{name_lengths}
use Rattle.spelling.proofs.name.name_length.Goals as goal

pub overflow_add-result : goal.overflow_add-result
overflow_add-result c = search (name_lengths, rules)

pub overflow_add-result-2 : goal.overflow_add-result-2
overflow_add-result-2 c = search (name_lengths, rules)

pub returns : goal.returns
returns c = search (name_lengths, rules)
