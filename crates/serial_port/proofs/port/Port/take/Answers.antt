-- `take`: refused with its number.
use borrow.Author.Rules.{rules}
use Rattle.serial_port.specs.Call.Serving.{taking}
use Rattle.serial_port.proofs.port.Port.take.Goals as goal

pub returns-in-Err : goal.returns-in-Err
returns-in-Err c = search (taking, c.in-Err.ensures, rules)
