-- `egrivundo_port`: the call on the port that the bytes say, and its port stored.
use borrow.Author.Rules.{rules}
use Rattle.capi.specs.Port.Calling.{calling}
use Rattle.capi.proofs.egrivundo_port.Statement.{statement}
use Rattle.capi.proofs.egrivundo_port.Tie as tie

pub egrivundo_port_spec : {M : Type 1} → statement M
egrivundo_port_spec =
    tie.close
    (tie.spec
    (λ c κs. search (calling, rules))  -- port_of-requires
    (λ c κs. search (calling, rules))  -- take-called-requires
    (λ c κs. search (calling, rules))  -- fault_numbers-fault-requires
    (λ c. search (calling, rules))  -- bounds-fault-0
    (λ c. search (calling, rules))  -- bounds-fault-1
    (λ c. search (calling, rules))  -- shape_of-values-then-called-ne0
    (λ c. search (calling, rules))  -- shape_of-reply-then-called-ne0
    (λ c. search (calling, rules))  -- returns-then-called-ne0
    (λ c κs. search (calling, rules))  -- store-requires
    (λ c. search (calling, rules))  -- shape_of-values-then-given-ne0
    (λ c. search (calling, rules))  -- shape_of-reply-then-given-ne0
    (λ c. search (calling, rules))  -- returns-then-given-ne0
    (λ c. search (calling, rules))  -- shape_of-values
    (λ c. search (calling, rules))  -- shape_of-reply
    (λ c. search (calling, rules)))  -- returns
