-- `take_tested`: refused for its claim.
use borrow.Author.Rules.{rules}
use Rattle.serial_port.specs.Call.Serving.{taking_tested}
use Rattle.serial_port.proofs.port.Port.take_tested.Goals as goal

pub returns-in-Err : goal.returns-in-Err
returns-in-Err c = search (taking_tested, c.in-Err.ensures, rules)
