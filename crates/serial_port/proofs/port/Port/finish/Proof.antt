-- `finish`: 99 to an overrun line, else the answer to the held bytes.
use borrow.Author.Rules.{rules}
use Rattle.serial_port.specs.Call.Finishing.{finishing}
use Rattle.serial_port.specs.Port.Collecting.{holding}
use Rattle.serial_port.proofs.port.Port.finish.Statement.{statement}
use Rattle.serial_port.proofs.port.Port.finish.Tie as tie

pub finish_spec : {M : Type 1} → statement M
finish_spec =
    tie.close
    (tie.spec
    (λ c κs. search (finishing, holding, rules))  -- put_nak-requires
    (λ c. search (finishing, holding, rules))  -- shape_of-reply-then-self
    (λ c. search (finishing, holding, rules))  -- returns-then-self
    (λ c. search (finishing, holding, rules))  -- slice_bounds-held-end
    (λ c. search (finishing, holding, rules))  -- slice_bounds-answer_line-end
    (λ c κs. search (finishing, holding, rules))  -- answer_line-requires
    (λ c. search (finishing, holding, rules))  -- shape_of-values
    (λ c. search (finishing, holding, rules))  -- shape_of-reply
    (λ c. search (finishing, holding, rules)))  -- returns
