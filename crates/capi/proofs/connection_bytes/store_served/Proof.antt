-- `store_served`: one byte is set, and the bytes of the port are written behind it.
use borrow.Author.Rules.{rules}
use Rattle.capi.specs.Connections.Storing.{taking}
use Rattle.capi.proofs.connection_bytes.store_served.Statement.{statement}
use Rattle.capi.proofs.connection_bytes.store_served.Tie as tie

pub store_served_spec : {M : Type 1} → statement M
store_served_spec =
    tie.close
    (tie.spec
    (λ c. search (taking, rules))  -- overflow_mul-at
    (λ c κs. search (taking, rules))  -- store-requires
    (λ c. search (taking, rules))  -- bounds-row-at
    (λ c. search (taking, rules))  -- overflow_add-at
    (λ c. search (taking, rules))  -- slice_bounds-put_bytes-end
    (λ c κs. search (taking, rules))  -- put_bytes-requires
    (λ c. search (taking, rules))  -- shape_of-row
    (λ c. search (taking, rules)))  -- returns
