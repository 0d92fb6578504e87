-- `connection_at`: its first byte, and the 66 bytes behind it.
use borrow.Author.Rules.{rules}
use Rattle.capi.specs.Connections.Storing.{taking}
use Rattle.capi.proofs.connection_bytes.connection_at.Statement.{statement}
use Rattle.capi.proofs.connection_bytes.connection_at.Tie as tie

pub connection_at_spec : {M : Type 1} → statement M
connection_at_spec =
    tie.close
    (tie.spec
    (λ c. search (taking, rules))  -- overflow_mul-start
    (λ c. search (taking, rules))  -- overflow_add-start
    (λ c κs. search (taking, rules))  -- port_part-part-requires
    (λ c κs. search (taking, rules))  -- port_of-port-requires
    (λ c. search (taking, rules))  -- bounds-row-start
    (λ c. search (taking, rules)))  -- returns
