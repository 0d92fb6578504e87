-- `waits`: a closed connection does not wait, an open one by its count.
use borrow.Author.Rules.{rules}
use Rattle.connections.proofs.Laws.Round.Seeking.{seeking}
use Rattle.connections.proofs.round.waits.Goals as goal

pub returns-then-flags-number : goal.returns-then-flags-number
returns-then-flags-number c = search (seeking, rules)

pub returns-else-flags-number : goal.returns-else-flags-number
returns-else-flags-number c = search (seeking, rules)
