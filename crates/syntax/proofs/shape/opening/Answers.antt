-- `opening`: behind a space, or right behind the verb.
use borrow.Author.Rules.{rules}
use Rattle.syntax.specs.Shape.Reading.{opening-rules}
use Rattle.syntax.proofs.shape.opening.Goals as goal

pub returns-then-line-le2 : goal.returns-then-line-le2
returns-then-line-le2 c = search (opening-rules, rules)

pub returns-then-line-eq32 : goal.returns-then-line-eq32
returns-then-line-eq32 c = search (opening-rules, rules)

pub returns : goal.returns
returns c = search (opening-rules, rules)
