-- `egrivundo_place`: the place of the row that was found.
use borrow.Author.Rules.{rules}
use Rattle.capi.specs.Rows.Telling.{telling}
use Rattle.capi.proofs.place.egrivundo_place.Statement.{statement}
use Rattle.capi.proofs.place.egrivundo_place.Tie as tie

pub egrivundo_place_spec : {M : Type 1} → statement M
egrivundo_place_spec =
    tie.close
    (tie.spec
    (λ c κs. search (telling, rules))  -- is_sound-requires
    (λ c. search (telling, rules))  -- returns-then-not-is_sound
    (λ c κs. search (telling, rules))  -- by_row-requires
    (λ c. search (telling, rules))  -- enum_known-p
    (λ c. search (telling, rules))  -- overflow_add-place
    (λ c. search (telling, rules))  -- enum_told-1
    (λ c. search (telling, rules))  -- returns-in-At
    (λ c. search (telling, rules)))  -- returns-in-Nothing
