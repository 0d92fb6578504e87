-- `tell`: the value at the parameter's place.
use borrow.Author.Rules.{rules}
use Rattle.line.specs.Answer.Replying.{telling}
use Rattle.line.proofs.answer.tell.Statement.{statement}
use Rattle.line.proofs.answer.tell.Tie as tie

pub tell_spec : {M : Type 1} → statement M
tell_spec =
    tie.close
    (tie.spec
    (λ c. search (telling, rules))  -- overflow_add-place
    (λ c. search (telling, rules))  -- offset_bounds-values-place
    (λ c. search (telling, rules))  -- bounds-values-place
    (λ c κs. search (telling, rules))  -- put_get-requires
    (λ c. search (telling, rules))  -- shape_of-reply
    (λ c. search (telling, rules)))  -- returns
