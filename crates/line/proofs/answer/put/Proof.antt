-- `put`: one value set, and ACK.
use borrow.Author.Rules.{rules}
use Rattle.line.specs.Answer.Replying.{putting}
use Rattle.line.proofs.answer.put.Statement.{statement}
use Rattle.line.proofs.answer.put.Tie as tie

pub put_spec : {M : Type 1} → statement M
put_spec =
    tie.close
    (tie.spec
    (λ c. search (putting, rules))  -- overflow_add-place
    (λ c. search (putting, rules))  -- offset_bounds-values-place
    (λ c. search (putting, rules))  -- bounds-values-place
    (λ c κs. search (putting, rules))  -- put_ack-requires
    (λ c. search (putting, rules))  -- shape_of-values
    (λ c. search (putting, rules))  -- shape_of-reply
    (λ c. (search (putting, rules), search (putting, rules))))  -- returns
