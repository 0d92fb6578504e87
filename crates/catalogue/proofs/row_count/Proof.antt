-- `row_count`: a mixer's rows are computed, those of another type counted.
use borrow.Author.Rules.{rules}
use Rattle.catalogue.specs.Catalogue.Laws.{counting}
use Rattle.catalogue.proofs.row_count.Statement.{statement}
use Rattle.catalogue.proofs.row_count.Tie as tie

pub row_count_spec : {M : Type 1} → statement M
row_count_spec =
    tie.close
    (tie.spec
    (λ c κs. search (counting, rules))  -- is_fixed-requires
    (λ c κs. search (counting, rules))  -- fixed_count-requires
    (λ c. search (counting, rules))  -- returns-then-is_fixed
    (λ c. search (counting, rules))  -- overflow_cast-result
    (λ c. search (counting, rules))  -- overflow_mul-result
    (λ c. search (counting, rules))  -- overflow_cast-result-2
    (λ c. search (counting, rules))  -- overflow_mul-result-2
    (λ c. search (counting, rules))  -- overflow_add-result
    (λ c. search (counting, rules)))  -- returns
