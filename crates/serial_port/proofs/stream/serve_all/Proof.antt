-- `serve_all`: the calls made so far do what feeding their bytes does.
use Prim.Native.Nat.{◌-◌}
use borrow.Author.Rules.{rules}
use lib.ListN.{length}
use Rattle.values.specs.Room.{room_of}
use Rattle.serial_port.specs.Stream.Turns.{Serving, serving, serving_at, serving_end, serving_less, serving_next}
use Rattle.serial_port.proofs.stream.serve_all.Statement.{statement}
use Rattle.serial_port.proofs.stream.serve_all.Tie as tie

abbrev invariant-loop-at : tie.invariant-loop-at
invariant-loop-at table values₀ given out₀ port₀ at₀ end₀ values out port at end = Serving (room_of table) values₀ port₀ given out₀ values port at end out

abbrev decreases-loop-at : tie.decreases-loop-at
decreases-loop-at table values₀ given out₀ port₀ at₀ end₀ values out port at end = length given - at

pub serve_all_spec : {M : Type 1} → statement M
serve_all_spec =
    tie.close
    (tie.spec
    invariant-loop-at
    decreases-loop-at
    (λ c. search (serving, rules))  -- loop-at-init
    (λ c. search (serving, rules))  -- overflow_sub-out
    (λ c. search (serving, rules))  -- shape_of-values-then-out-end-lt-REPLY
    (λ c. search (serving, rules))  -- shape_of-out-then-out-end-lt-REPLY
    (λ c. search (serving, rules))  -- returns-then-out-end-lt-REPLY
    (λ c. search (serving, rules))  -- slice_bounds-serve-count
    (λ c. search (serving, rules))  -- slice_bounds-serve-start
    (λ c. search (serving, rules))  -- slice_bounds-serve-end
    (λ c. search (serving, rules))  -- slice_bounds-serve-count-in-loop-at
    (λ c. search (serving, rules))  -- slice_bounds-serve-start-in-loop-at
    (λ c. search (serving, rules))  -- slice_bounds-serve-end-in-loop-at
    (λ c κs. search (serving, rules))  -- serve-called-requires
    (λ c. serving_at _ _ _ _ _ _ _ _ _ _ c.loop-at.invariant _ _ _ c.if-out-end-lt-REPLY.false c.serve-called.ensures)  -- overflow_add-at
    (λ c. serving_end _ _ _ _ _ _ _ _ _ _ c.loop-at.invariant _ _ _ c.if-out-end-lt-REPLY.false c.serve-called.ensures)  -- overflow_add-end
    (λ c. serving_less _ _ _ _ _ _ _ _ _ _ c.loop-at.invariant _ _ _ c.if-out-end-lt-REPLY.false c.serve-called.ensures c.loop-at-test.true)  -- loop-at-smaller
    (λ c. serving_next _ _ _ _ _ _ _ _ _ _ c.loop-at.invariant _ _ _ c.if-out-end-lt-REPLY.false c.serve-called.ensures c.loop-at-test.true)  -- loop-at-preserved
    (λ c. search (serving, rules))  -- shape_of-values
    (λ c. search (serving, rules))  -- shape_of-out
    (λ c. search (serving, rules)))  -- returns
