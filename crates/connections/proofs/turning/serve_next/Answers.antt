-- `serve_next`: its own part of the bytes, and what the port call promises.
use borrow.Author.Rules.{rules}
use Rattle.connections.proofs.Laws.Turn.Single.Rules.{waiting}
use Rattle.connections.proofs.turning.serve_next.Goals as goal

pub returns : goal.returns
returns c = search (waiting, rules)
