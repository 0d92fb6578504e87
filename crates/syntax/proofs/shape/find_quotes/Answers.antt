-- `find_quotes`: each return is a rule of the two quotes.
use borrow.Author.Rules.{rules}
use Rattle.syntax.specs.Shape.Quotes.{quotes-rules}
use Rattle.syntax.proofs.shape.find_quotes.Goals as goal

pub returns-then-line-opening : goal.returns-then-line-opening
returns-then-line-opening c = search (quotes-rules, rules)

pub returns-then-line-opening-ne34 : goal.returns-then-line-opening-ne34
returns-then-line-opening-ne34 c = search (quotes-rules, rules)

pub returns-then-closing-line : goal.returns-then-closing-line
returns-then-closing-line c = search (quotes-rules, rules)

pub returns : goal.returns
returns c = search (quotes-rules, rules)
