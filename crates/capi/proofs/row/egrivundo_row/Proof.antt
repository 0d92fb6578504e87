-- `egrivundo_row`: the row that was found, told.
use borrow.Author.Rules.{rules}
use Rattle.capi.specs.Rows.Telling.{telling}
use Rattle.capi.proofs.row.egrivundo_row.Statement.{statement}
use Rattle.capi.proofs.row.egrivundo_row.Tie as tie

pub egrivundo_row_spec : {M : Type 1} → statement M
egrivundo_row_spec =
    tie.close
    (tie.spec
    (λ c κs. search (telling, rules))  -- is_sound-requires
    (λ c. search (telling, rules))  -- returns-then-not-is_sound
    (λ c κs. search (telling, rules))  -- by_row-requires
    (λ c. search (telling, rules))  -- enum_known-p
    (λ c κs. search (telling, rules))  -- row_numbers-requires
    (λ c. search (telling, rules))  -- enum_told-1
    (λ c. search (telling, rules))  -- returns-in-At
    (λ c. search (telling, rules)))  -- returns-in-Nothing
