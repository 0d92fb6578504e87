-- `by_row`: the module is found, and then its row.
use Rattle.std.proofs.Common.{rules}
use Rattle.values.specs.Parameters.ByRow.{by_row_lem}
use Rattle.values.proofs.by_row.by_row.Goals as goal

pub returns-in_err-module_at : goal.returns-in_err-module_at
returns-in_err-module_at c = search (by_row_lem, rules)

pub own_parameter-requires : goal.own_parameter-requires
own_parameter-requires c = search (by_row_lem, rules)

pub returns : goal.returns
returns c = search (by_row_lem, rules)
