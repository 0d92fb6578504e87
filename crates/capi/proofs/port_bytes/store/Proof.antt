-- `store`: two bytes are set, and the held bytes are written behind them.
use borrow.Author.Rules.{rules}
use Rattle.capi.specs.Port.Bytes.{storing}
use Rattle.capi.proofs.port_bytes.store.Statement.{statement}
use Rattle.capi.proofs.port_bytes.store.Tie as tie

pub store_spec : {M : Type 1} → statement M
store_spec =
    tie.close
    (tie.spec
    (λ c. search (storing, rules))  -- overflow_cast-bytes
    (λ c. search (storing, rules))  -- bounds-bytes-0
    (λ c κs. search (storing, rules))  -- flag_byte-requires
    (λ c. search (storing, rules))  -- bounds-bytes-1
    (λ c. search (storing, rules))  -- slice_bounds-put_bytes-end
    (λ c κs. search (storing, rules))  -- put_bytes-requires
    (λ c. search (storing, rules)))  -- returns
