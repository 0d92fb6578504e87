-- `row_permits`: the three tests, over a row whose numbers are narrow.
use borrow.Author.Rules.{rules}
use Rattle.catalogue.specs.Catalogue.Narrow.Permitting.{narrowing}
use Rattle.catalogue.proofs.listed.row_permits.Goals as goal

pub returns-then-v-row : goal.returns-then-v-row
returns-then-v-row c = search (narrowing, rules)

pub returns-then-row-v : goal.returns-then-row-v
returns-then-row-v c = search (narrowing, rules)

pub returns-then-row-eq1 : goal.returns-then-row-eq1
returns-then-row-eq1 c = search (narrowing, rules)

pub overflow_sub-result : goal.overflow_sub-result
overflow_sub-result c = search (narrowing, rules)

pub overflow_cast-result : goal.overflow_cast-result
overflow_cast-result c = (search (narrowing, rules), search (narrowing, rules))

pub overflow_cast-result-2 : goal.overflow_cast-result-2
overflow_cast-result-2 c = search (narrowing, rules)

pub nonzero_rem-result : goal.nonzero_rem-result
nonzero_rem-result c = search (narrowing, rules)

pub returns : goal.returns
returns c = search (narrowing, rules)
