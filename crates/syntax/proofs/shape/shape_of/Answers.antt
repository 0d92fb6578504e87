-- `shape_of`: each return is a rule of the verb.
use borrow.Author.Rules.{rules}
use Rattle.syntax.specs.Shape.Reading.{shape-rules}
use Rattle.syntax.proofs.shape.shape_of.Goals as goal

pub returns-then-line-gt64 : goal.returns-then-line-gt64
returns-then-line-gt64 c = search (shape-rules, rules)

pub returns-then-line-lt2 : goal.returns-then-line-lt2
returns-then-line-lt2 c = search (shape-rules, rules)

pub returns-then-line-ne65 : goal.returns-then-line-ne65
returns-then-line-ne65 c = search (shape-rules, rules)

pub returns-in-83 : goal.returns-in-83
returns-in-83 c = search (shape-rules, rules)

pub returns-in-71 : goal.returns-in-71
returns-in-71 c = search (shape-rules, rules)

pub returns-in_default : goal.returns-in_default
returns-in_default c = search (shape-rules, rules)
