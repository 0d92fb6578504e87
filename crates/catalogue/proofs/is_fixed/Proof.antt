-- `is_fixed`: below 1, and then at most 6.
use borrow.Author.Rules.{rules}
use Rattle.catalogue.specs.Catalogue.Laws.{kinds}
use Rattle.catalogue.proofs.is_fixed.Statement.{statement}
use Rattle.catalogue.proofs.is_fixed.Tie as tie

pub is_fixed_spec : {M : Type 1} → statement M
is_fixed_spec =
    tie.close
    (tie.spec
    (λ c. search (kinds, rules))  -- returns-then-kind-lt1
    (λ c. search (kinds, rules)))  -- returns
