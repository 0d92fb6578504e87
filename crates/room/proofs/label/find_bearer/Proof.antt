-- `find_bearer`: the inner loop compares a label with the text, the outer one keeps the bearer found so far.
use Prim.Native.Nat.{◌-◌}
use borrow.Author.Rules.{rules}
use lib.ListN.{length}
use Rattle.room.specs.Label.Sought.{Comparing, Sought, seeking}
use Rattle.room.specs.Table.Walk.{walking}
use Rattle.room.proofs.label.find_bearer.Lts.{else-size-lt32-via-then-size-lt32+else-table-label-ne0, else-size-lt32-via-else-size-lt32}
use Rattle.room.proofs.label.find_bearer.Statement.{statement}
use Rattle.room.proofs.label.find_bearer.Tie as tie

abbrev invariant-loop-i : tie.invariant-loop-i
invariant-loop-i table text found number place first own here before label layout i₀ i = Comparing table text label i

abbrev decreases-loop-i : tie.decreases-loop-i
decreases-loop-i table text found number place first own here before label layout i₀ i = i

abbrev invariant-records : tie.invariant-records
invariant-records table text found₀ number₀ place₀ first₀ found number place first = Sought table text found number place first

abbrev decreases-records : tie.decreases-records
decreases-records table text found₀ number₀ place₀ first₀ found number place first = length table - place

pub find_bearer_spec : {M : Type 1} → statement M
find_bearer_spec =
    tie.close
    (tie.spec
    invariant-loop-i
    decreases-loop-i
    invariant-records
    decreases-records
    (λ c κs. search (seeking, walking, rules))  -- label_right-requires
    (λ c. search (seeking, walking, rules))  -- returns-then-not-label_right
    (λ c. search (seeking, walking, rules))  -- records-init
    (λ c. search (seeking, walking, rules))  -- overflow_add-label
    (λ c κs. search (seeking, walking, rules))  -- layout_at-layout-requires
    (λ c. search (seeking, walking, rules))  -- overflow_add-number
    (λ c κs. search (seeking, walking, rules))  -- row_count-first-requires
    (λ c. search (seeking, walking, rules))  -- overflow_add-first
    (λ c κs. search (seeking, walking, rules))  -- body_length-requires
    (λ c. search (seeking, walking, rules))  -- overflow_add-place
    (λ c. search (seeking, walking, rules))  -- loop-i-init
    (λ c. search (seeking, walking, rules))  -- overflow_sub-i
    (λ c. search (seeking, walking, rules))  -- overflow_add-label-in-loop-i
    (λ c. search (seeking, walking, rules))  -- bounds-table-label
    (λ c. search (seeking, walking, rules))  -- bounds-text-i
    (λ c. search (seeking, walking, rules))  -- records-smaller-then-table-label
    (λ c. search (seeking, walking, rules))  -- records-preserved-then-table-label
    (λ c. search (seeking, walking, rules))  -- loop-i-smaller
    (λ c. search (seeking, walking, rules))  -- loop-i-preserved
    (λ c. search (seeking, walking, rules))  -- overflow_add-label-then-size-lt32
    (λ c. search (seeking, walking, rules))  -- bounds-table-label-then-size-lt32
    (λ c. search (seeking, walking, rules))  -- records-smaller-then-table-label-ne0
    (λ c. search (seeking, walking, rules))  -- records-preserved-then-table-label-ne0
    (λ c. search (seeking, walking, rules))  -- enum_told-1
    (λ c. search (seeking, walking, rules))  -- enum_told-in_default
    (λ c. search (seeking, walking, rules))  -- records-smaller
    (λ c. elim c.else-size-lt32.branch [
      | else-size-lt32-via-then-size-lt32+else-table-label-ne0 w ↦ search (seeking, walking, rules)
      | else-size-lt32-via-else-size-lt32 w ↦ search (seeking, walking, rules)
    ])  -- records-preserved
    (λ c. search (seeking, walking, rules))  -- returns-then-table-place
    (λ d. elim d.else-size-lt32.branch [
      | else-size-lt32-via-then-size-lt32+else-table-label-ne0 v ↦ search (seeking, walking, rules)
      | else-size-lt32-via-else-size-lt32 v ↦ search (seeking, walking, rules)
    ]))  -- returns-in-Only
