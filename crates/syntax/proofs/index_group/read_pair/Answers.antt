-- `read_pair`: the first byte is `(`.
use borrow.Author.Rules.{rules}
use Rattle.syntax.specs.IndexGroup.Reading.{pair_rules}
use Rattle.syntax.proofs.index_group.read_pair.Goals as goal

pub returns-then-s-eq0 : goal.returns-then-s-eq0
returns-then-s-eq0 c = search (pair_rules, rules)

pub returns-then-s-eq40 : goal.returns-then-s-eq40
returns-then-s-eq40 c = search (pair_rules, rules)

pub returns : goal.returns
returns c = search (pair_rules, rules)
