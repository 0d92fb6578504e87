-- `same_bytes`: what `==` answers.
use Rattle.std.proofs.Common.{rules}
use Rattle.worked.specs.Script.Comparing.{compared}
use Rattle.worked.proofs.compare.same_bytes.Goals as goal

pub returns : goal.returns
returns c = search (compared, rules)
