-- `egrivundo_starts`: a list of the right length is filled.
use borrow.Author.Rules.{rules}
use Rattle.capi.specs.Rows.Telling.{starting}
use Rattle.capi.proofs.value_list.egrivundo_starts.Statement.{statement}
use Rattle.capi.proofs.value_list.egrivundo_starts.Tie as tie

pub egrivundo_starts_spec : {M : Type 1} → statement M
egrivundo_starts_spec =
    tie.close
    (tie.spec
    (λ c κs. search (starting, rules))  -- is_sound-requires
    (λ c. search (starting, rules))  -- returns-then-not-is_sound
    (λ c κs. search (starting, rules))  -- parameter_count-count-requires
    (λ c. search (starting, rules))  -- returns-then-values-count
    (λ c κs. search (starting, rules))  -- fill_starts-requires
    (λ c. search (starting, rules))  -- shape_of-values
    (λ c. search (starting, rules)))  -- returns
