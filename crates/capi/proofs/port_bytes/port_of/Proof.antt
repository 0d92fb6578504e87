-- `port_of`: the first two bytes, and the 64 bytes behind them.
use borrow.Author.Rules.{rules}
use Rattle.capi.specs.Port.Bytes.{port_said}
use Rattle.capi.proofs.port_bytes.port_of.Statement.{statement}
use Rattle.capi.proofs.port_bytes.port_of.Tie as tie

pub port_of_spec : {M : Type 1} → statement M
port_of_spec =
    tie.close
    (tie.spec
    (λ c. search rules)  -- slice_bounds-put_bytes-end
    (λ c. search rules)  -- slice_bounds-put_bytes-count
    (λ c. search rules)  -- slice_bounds-put_bytes-start
    (λ c. search rules)  -- slice_bounds-put_bytes-end-2
    (λ c κs. search rules)  -- put_bytes-requires
    (λ c. search rules)  -- bounds-port-0
    (λ c κs. search rules)  -- count-requires
    (λ c. search rules)  -- bounds-port-1
    (λ c. search (port_said, rules)))  -- returns
