-- `turn_one`: refused with its number, or made.
use borrow.Author.Rules.{rules}
use Rattle.connections.proofs.Laws.Turn.Single.Rules.{turning}
use Rattle.connections.proofs.turning.turn_one.Goals as goal

pub returns-in-Err : goal.returns-in-Err
returns-in-Err c = search (turning, c.in-Err.ensures, rules)

pub returns : goal.returns
returns c = search (turning, c.in_default.ensures, rules)
