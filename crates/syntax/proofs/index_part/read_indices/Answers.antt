-- `read_indices`: the first byte is `>`.
use borrow.Author.Rules.{rules}
use Rattle.syntax.specs.IndexPart.Reading.{indices-rules}
use Rattle.syntax.proofs.index_part.read_indices.Goals as goal

pub returns-then-part-eq0 : goal.returns-then-part-eq0
returns-then-part-eq0 c = search (indices-rules, rules)

pub returns-then-part-eq62 : goal.returns-then-part-eq62
returns-then-part-eq62 c = search (indices-rules, rules)

pub returns : goal.returns
returns c = search (indices-rules, rules)
