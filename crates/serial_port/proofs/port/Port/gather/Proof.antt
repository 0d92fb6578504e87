-- `gather`: by whether the given bytes have an 0D.
use borrow.Author.Rules.{rules}
use Rattle.serial_port.specs.Port.Gathering.{gathering}
use Rattle.serial_port.proofs.port.Port.gather.Statement.{statement}
use Rattle.serial_port.proofs.port.Port.gather.Tie as tie

pub gather_spec : {M : Type 1} → statement M
gather_spec =
    tie.close
    (tie.spec
    (λ c κs. search (gathering, rules))  -- find-end-requires
    (λ c. search (gathering, rules))  -- slice_bounds-collect-end
    (λ c κs. search (gathering, rules))  -- collect-port-requires
    (λ c. search (gathering, rules))  -- returns-then-end-given
    (λ c. search (gathering, rules))  -- overflow_add-result
    (λ c. search (gathering, rules)))  -- returns
