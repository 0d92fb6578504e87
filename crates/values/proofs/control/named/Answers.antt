-- `named`: what is sought is found, or nothing.
use Rattle.std.proofs.Common.{rules}
use Rattle.catalogue.specs.Catalogue.Laws.{kind-flag}
use Rattle.values.specs.Control.Seeking.{naming}
use Rattle.values.proofs.control.named.Goals as goal

pub returns-in_err-indices : goal.returns-in_err-indices
returns-in_err-indices c = search (naming, rules)

pub returns-then-is_fixed : goal.returns-then-is_fixed
returns-then-is_fixed c = search (naming, kind-flag, rules)

pub returns : goal.returns
returns c = search (naming, kind-flag, rules)
