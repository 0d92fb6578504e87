-- `play_line`: the reply that the call wrote, against the bytes behind the line.
use borrow.Author.Rules.{rules}
use Rattle.worked.specs.Script.Turning.{turning}
use Rattle.worked.proofs.play.play_line.Statement.{statement}
use Rattle.worked.proofs.play.play_line.Tie as tie

pub play_line_spec : {M : Type 1} → statement M
play_line_spec =
    tie.close
    (tie.spec
    (λ c. search (turning, rules))  -- slice_bounds-take-end
    (λ c κs. search (turning, rules))  -- take-called-requires
    (λ c. search (turning, rules))  -- slice_bounds-through-count
    (λ c. search (turning, rules))  -- slice_bounds-through-start
    (λ c. search (turning, rules))  -- slice_bounds-through-end
    (λ c κs. search (turning, rules))  -- through-must-requires
    (λ c. search (turning, rules))  -- slice_bounds-reply-end
    (λ c. search (turning, rules))  -- slice_bounds-same_bytes-end
    (λ c κs. search (turning, rules))  -- same_bytes-right-requires
    (λ c. search (turning, rules))  -- overflow_add-result
    (λ c. search (turning, rules))  -- shape_of-values
    (λ c. search (turning, rules)))  -- returns
