-- `is_sound`: the records passed are sound, and what follows decides.
use Prim.Native.Nat.{◌-◌}
use borrow.Author.Rules.{rules}
use lib.ListN.{length}
use Rattle.room.specs.Table.Checked.{Checked, checking}
use Rattle.room.proofs.table.is_sound.Statement.{statement}
use Rattle.room.proofs.table.is_sound.Tie as tie

abbrev invariant-loop-place : tie.invariant-loop-place
invariant-loop-place table place₀ left₀ place left = Checked table place left

abbrev decreases-loop-place : tie.decreases-loop-place
decreases-loop-place table place₀ left₀ place left = length table - place

pub is_sound_spec : {M : Type 1} → statement M
is_sound_spec =
    tie.close
    (tie.spec
    invariant-loop-place
    decreases-loop-place
    (λ c. search (checking, rules))  -- loop-place-init
    (λ c. search (checking, rules))  -- returns-then-left-eq0
    (λ c. search (checking, rules))  -- bounds-table-place
    (λ c. search (checking, rules))  -- overflow_add-body
    (λ c. search (checking, rules))  -- slice_bounds-sound_length-count
    (λ c. search (checking, rules))  -- slice_bounds-sound_length-start
    (λ c. search (checking, rules))  -- slice_bounds-sound_length-end
    (λ c κs. search (checking, rules))  -- sound_length-size-requires
    (λ c. search (checking, rules))  -- returns-then-size-eq0
    (λ c. search (checking, rules))  -- overflow_add-place
    (λ c. search (checking, rules))  -- overflow_sub-left
    (λ c. search (checking, rules))  -- loop-place-smaller
    (λ c. search (checking, rules))  -- loop-place-preserved
    (λ c. search (checking, rules)))  -- returns
