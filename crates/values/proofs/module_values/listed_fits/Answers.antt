-- `listed_fits`: the rules of its loop.
use borrow.Author.Rules.{rules}
use Rattle.catalogue.specs.Catalogue.Run.{running}
use Rattle.values.specs.Permit.Testing.{testing}
use Rattle.values.proofs.module_values.listed_fits.Goals as goal

pub loop-j-init : goal.loop-j-init
loop-j-init c = search (testing, rules)

pub overflow_add-first : goal.overflow_add-first
overflow_add-first c = search (running, testing, rules)

pub row_permits-requires : goal.row_permits-requires
row_permits-requires c = search (running, testing, rules)

pub returns-then-not-row_permits : goal.returns-then-not-row_permits
returns-then-not-row_permits c = search (testing, rules)

pub loop-j-preserved : goal.loop-j-preserved
loop-j-preserved c = search (testing, rules)

pub returns : goal.returns
returns c = search (testing, rules)
