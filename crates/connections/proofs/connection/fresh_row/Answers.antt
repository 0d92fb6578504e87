-- `fresh_row`: one closed connection with a fresh port, 32 times.
use borrow.Author.Rules.{rules}
use Rattle.connections.specs.Connections.Switching.{fresh-made}
use Rattle.connections.proofs.connection.fresh_row.Goals as goal

pub returns : goal.returns
returns c = search (fresh-made, rules)
