-- `get_shape`: both quotes are there, or one is missing.
use borrow.Author.Rules.{rules}
use Rattle.syntax.specs.Shape.Quotes.{get_rules}
use Rattle.syntax.proofs.shape.get_shape.Goals as goal

pub returns-in_err-quotes : goal.returns-in_err-quotes
returns-in_err-quotes c = search (get_rules, rules)

pub returns : goal.returns
returns c = search (get_rules, rules)
