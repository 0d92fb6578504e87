-- `switch_bytes`: by the three tests, and three bytes stored.
use borrow.Author.Rules.{rules}
use Rattle.capi.specs.Connections.Storing.{switching}
use Rattle.capi.proofs.connection_bytes.switch_bytes.Statement.{statement}
use Rattle.capi.proofs.connection_bytes.switch_bytes.Tie as tie

pub switch_bytes_spec : {M : Type 1} → statement M
switch_bytes_spec =
    tie.close
    (tie.spec
    (λ c. search (switching, rules))  -- returns-then-row-ne2144
    (λ c. search (switching, rules))  -- returns-then-number-gt31
    (λ c. search (switching, rules))  -- overflow_mul-start
    (λ c. search (switching, rules))  -- bounds-row-start
    (λ c κs. search (switching, rules))  -- is_change-requires
    (λ c. search (switching, rules))  -- returns-then-not-is_change
    (λ c κs. search (switching, rules))  -- flag_byte-requires
    (λ c. search (switching, rules))  -- bounds-row-start-2
    (λ c. search (switching, rules))  -- overflow_add-row
    (λ c. search (switching, rules))  -- bounds-row-start-3
    (λ c. search (switching, rules))  -- overflow_add-row-2
    (λ c. search (switching, rules))  -- bounds-row-start-4
    (λ c. search (switching, rules))  -- shape_of-row
    (λ c. search (switching, rules)))  -- returns
