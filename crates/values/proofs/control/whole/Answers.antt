-- `whole`: what was found, or nothing.
use Rattle.std.proofs.Common.{rules}
use Rattle.values.specs.Control.Seeking.{whole-rules}
use Rattle.values.proofs.control.whole.Goals as goal

pub returns-in_err-found : goal.returns-in_err-found
returns-in_err-found c = search (whole-rules, rules)

pub returns : goal.returns
returns c = search (whole-rules, rules)
