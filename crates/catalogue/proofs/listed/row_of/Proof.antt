-- `row_of`: a mixer's row is computed, another is listed.
use borrow.Author.Rules.{rules}
use Rattle.catalogue.specs.Catalogue.Run.{taking}
use Rattle.catalogue.proofs.listed.row_of.Statement.{statement}
use Rattle.catalogue.proofs.listed.row_of.Tie as tie

pub row_of_spec : {M : Type 1} → statement M
row_of_spec =
    tie.close
    (tie.spec
    (λ c κs. search (taking, rules))  -- is_fixed-requires
    (λ c κs. search (taking, rules))  -- listed_row-requires
    (λ c. search (taking, rules))  -- returns-then-is_fixed
    (λ c. search (taking, rules))  -- overflow_cast-layout
    (λ c. search (taking, rules))  -- overflow_cast-layout-2
    (λ c κs. search (taking, rules))  -- mixer_row-requires
    (λ c. search (taking, rules)))  -- returns
