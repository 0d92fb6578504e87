-- `listed_row`: the type's run of rows, and the row in it.
use borrow.Author.Rules.{rules}
use Rattle.catalogue.specs.Catalogue.Run.{running}
use Rattle.catalogue.proofs.listed.listed_row.Statement.{statement}
use Rattle.catalogue.proofs.listed.listed_row.Tie as tie

pub listed_row_spec : {M : Type 1} → statement M
listed_row_spec =
    tie.close
    (tie.spec
    (λ c κs. search (running, rules))  -- first_row-requires
    (λ c. search (running, rules))  -- overflow_add-first_row
    (λ c κs. search (running, rules))  -- row_at-requires
    (λ c. search (running, rules)))  -- returns
