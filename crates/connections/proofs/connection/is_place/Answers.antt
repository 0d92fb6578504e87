-- `is_place`: 32 connections, and then the number.
use borrow.Author.Rules.{rules}
use Rattle.connections.specs.Connections.Switching.{places}
use Rattle.connections.proofs.connection.is_place.Goals as goal

pub returns-then-count-eq32 : goal.returns-then-count-eq32
returns-then-count-eq32 c = search (places, rules)

pub returns-else-count-eq32 : goal.returns-else-count-eq32
returns-else-count-eq32 c = search (places, rules)
