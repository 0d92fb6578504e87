-- `find_from`: a place in the rest, counted from the start.
use borrow.Author.Rules.{rules}
use Rattle.text.specs.Cut.From.{from_rules}
use Rattle.syntax.proofs.shape.find_from.Goals as goal

pub overflow_add-result : goal.overflow_add-result
overflow_add-result c = search (from_rules, rules)

pub returns : goal.returns
returns c = search (from_rules, rules)
