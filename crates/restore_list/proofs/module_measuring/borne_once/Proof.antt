-- `borne_once`: the label is a part of the table.
use borrow.Author.Rules.{rules}
use Rattle.room.specs.Label.Length.{label-place}
use Rattle.restore_list.specs.Measuring.Label.{bearing}
use Rattle.restore_list.proofs.module_measuring.borne_once.Statement.{statement}
use Rattle.restore_list.proofs.module_measuring.borne_once.Tie as tie

pub borne_once_spec : {M : Type 1} → statement M
borne_once_spec =
    tie.close
    (tie.spec
    (λ c. search (bearing, label-place, rules))  -- overflow_add-start
    (λ c. search (bearing, label-place, rules))  -- overflow_add-end
    (λ c. search (bearing, label-place, rules))  -- slice_bounds-find_bearer-count
    (λ c. search (bearing, label-place, rules))  -- slice_bounds-find_bearer-start
    (λ c. search (bearing, label-place, rules))  -- slice_bounds-find_bearer-end
    (λ c κs. search (bearing, label-place, rules))  -- find_bearer-requires
    (λ c. search (bearing, label-place, rules))  -- enum_told-1
    (λ c. search (bearing, label-place, rules))  -- enum_told-in-NotOne
    (λ c. search (bearing, label-place, rules))  -- returns-in-Only
    (λ c. search (bearing, label-place, rules)))  -- returns-in-NotOne
