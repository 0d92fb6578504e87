-- `egrivundo_value_count`: the parameters are counted.
use borrow.Author.Rules.{rules}
use Rattle.capi.specs.Rows.Telling.{telling}
use Rattle.capi.proofs.value_list.egrivundo_value_count.Statement.{statement}
use Rattle.capi.proofs.value_list.egrivundo_value_count.Tie as tie

pub egrivundo_value_count_spec : {M : Type 1} → statement M
egrivundo_value_count_spec =
    tie.close
    (tie.spec
    (λ c κs. search (telling, rules))  -- is_sound-requires
    (λ c. search (telling, rules))  -- returns-then-not-is_sound
    (λ c κs. search (telling, rules))  -- parameter_count-count-requires
    (λ c. search (telling, rules)))  -- returns
