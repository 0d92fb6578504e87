-- `port_part`: all of the block is written.
use borrow.Author.Rules.{rules}
use Rattle.capi.specs.Connections.Storing.{taking}
use Rattle.capi.proofs.connection_bytes.port_part.Statement.{statement}
use Rattle.capi.proofs.connection_bytes.port_part.Tie as tie

pub port_part_spec : {M : Type 1} → statement M
port_part_spec =
    tie.close
    (tie.spec
    (λ c. search (taking, rules))  -- overflow_add-end
    (λ c. search (taking, rules))  -- slice_bounds-put_bytes-end
    (λ c. search (taking, rules))  -- slice_bounds-put_bytes-count
    (λ c. search (taking, rules))  -- slice_bounds-put_bytes-start
    (λ c. search (taking, rules))  -- slice_bounds-put_bytes-end-2
    (λ c κs. search (taking, rules))  -- put_bytes-requires
    (λ c. search (taking, rules)))  -- returns
