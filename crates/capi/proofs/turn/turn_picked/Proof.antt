-- `turn_picked`: the one that is next, taken out of the row.
use borrow.Author.Rules.{rules}
use Rattle.capi.specs.Turn.Turning.{picking}
use Rattle.capi.proofs.turn.turn_picked.Statement.{statement}
use Rattle.capi.proofs.turn.turn_picked.Tie as tie

pub turn_picked_spec : {M : Type 1} → statement M
turn_picked_spec =
    tie.close
    (tie.spec
    (λ c κs. search (picking, rules))  -- survey_of-survey-requires
    (λ c κs. search (picking, rules))  -- pick-number-requires
    (λ c κs. search (picking, rules))  -- connection_at-one-requires
    (λ c κs. search (picking, rules))  -- turn_one-requires
    (λ c. search (picking, rules))  -- shape_of-values
    (λ c. search (picking, rules))  -- shape_of-reply
    (λ c. search (picking, rules)))  -- returns
