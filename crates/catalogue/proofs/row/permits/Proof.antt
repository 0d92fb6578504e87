-- `permits`: the three tests of the definition, one after the other.
use borrow.Author.Rules.{rules}
use Rattle.catalogue.specs.Row.Laws.{permitting}
use Rattle.catalogue.proofs.row.permits.Statement.{statement}
use Rattle.catalogue.proofs.row.permits.Tie as tie

pub permits_spec : {M : Type 1} → statement M
permits_spec =
    tie.close
    (tie.spec
    (λ c. search (permitting, rules))
    (λ c. search (permitting, rules))
    (λ c. search (permitting, rules))
    (λ c. (search (permitting, rules), search (permitting, rules)))
    (λ c. search rules)
    (λ c. search (permitting, rules)))
