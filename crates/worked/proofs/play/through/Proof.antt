-- `through`: up to the 0D and with it, or all.
use borrow.Author.Rules.{rules}
use Rattle.worked.specs.Script.Cutting.{cutting}
use Rattle.worked.proofs.play.through.Statement.{statement}
use Rattle.worked.proofs.play.through.Tie as tie

pub through_spec : {M : Type 1} → statement M
through_spec =
    tie.close
    (tie.spec
    (λ c κs. search (cutting, rules))  -- find-end-requires
    (λ c. search (cutting, rules))  -- returns-then-end-s
    (λ c. search (cutting, rules))  -- overflow_add-result
    (λ c. search (cutting, rules))  -- slice_bounds-result-end
    (λ c. search (cutting, rules)))  -- returns
