-- `start_of`: 0 where the row permits it, else its low.
use borrow.Author.Rules.{rules}
use Rattle.catalogue.specs.Row.Laws.{starting}
use Rattle.catalogue.proofs.row.start_of.Statement.{statement}
use Rattle.catalogue.proofs.row.start_of.Tie as tie

pub start_of_spec : {M : Type 1} → statement M
start_of_spec = tie.close (tie.spec (λ c κs. search rules) (λ c. search (starting, rules)) (λ c. search (starting, rules)))
