-- `serve_waiting`: by whose turn it is.
use borrow.Author.Rules.{rules}
use Rattle.connections.proofs.Laws.Turn.Single.Rules.{waiting}
use Rattle.connections.proofs.turning.serve_waiting.Goals as goal

pub returns-in-Some : goal.returns-in-Some
returns-in-Some c = search (waiting, rules)
