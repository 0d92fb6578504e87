-- `collect`: an overrun port as it is, the bytes behind those held, or a line too long.
use borrow.Author.Rules.{rules}
use Rattle.serial_port.specs.Port.Collecting.{collecting, holding}
use Rattle.serial_port.proofs.port.Port.collect.Statement.{statement}
use Rattle.serial_port.proofs.port.Port.collect.Tie as tie

pub collect_spec : {M : Type 1} → statement M
collect_spec =
    tie.close
    (tie.spec
    (λ c. search (collecting, holding, rules))  -- returns-then-self
    (λ c. search (collecting, holding, rules))  -- overflow_sub-len
    (λ c. search (collecting, holding, rules))  -- slice_bounds-put_bytes-end
    (λ c κs. search (collecting, holding, rules))  -- put_bytes-end-requires
    (λ c. search (collecting, holding, rules))  -- returns-then-more-len
    (λ c. search (collecting, holding, rules)))  -- returns
