-- `set_shape`: the quotes, and the `=` after them.
use borrow.Author.Rules.{rules}
use Rattle.std.proofs.Common.{arith}
use Rattle.syntax.specs.Shape.Quotes.{set_rules, has-equals, no_equals}
use Rattle.syntax.proofs.shape.set_shape.Goals as goal

pub returns-in_err-quotes : goal.returns-in_err-quotes
returns-in_err-quotes c = search (set_rules, rules)

pub overflow_add-quotes : goal.overflow_add-quotes
overflow_add-quotes c = search (set_rules, rules)

pub find_from-equal-requires : goal.find_from-equal-requires
find_from-equal-requires c = search (set_rules, rules)

pub returns-then-equal-line : goal.returns-then-equal-line
returns-then-equal-line c = has-equals c.args.line.now c.in_ok-quotes.quotes c.in_ok-quotes.ensures _ c.find_from-equal.ensures c.if-equal-line.true

pub returns : goal.returns
returns c = no_equals c.args.line.now c.in_ok-quotes.quotes c.in_ok-quotes.ensures _ c.find_from-equal.ensures (omega arith) _ c.malformed.ensures
