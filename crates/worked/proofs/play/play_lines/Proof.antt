-- `play_lines`: the lines before `at` got the reply that the script says.
use Prim.Native.Nat.{◌-◌}
use borrow.Author.Rules.{rules}
use lib.ListN.{length}
use Rattle.values.specs.Room.{room_of}
use Rattle.worked.specs.Script.Playing.{Playing, playing}
use Rattle.worked.proofs.play.play_lines.Statement.{statement}
use Rattle.worked.proofs.play.play_lines.Tie as tie

abbrev invariant-loop-at : tie.invariant-loop-at
invariant-loop-at table values₀ script port₀ at₀ right₀ values port at right = Playing (room_of table) values₀ script values port at right

abbrev decreases-loop-at : tie.decreases-loop-at
decreases-loop-at table values₀ script port₀ at₀ right₀ values port at right = length script - at

pub play_lines_spec : {M : Type 1} → statement M
play_lines_spec =
    tie.close
    (tie.spec
    invariant-loop-at
    decreases-loop-at
    (λ c κs. search (playing, rules))  -- fresh-port-requires
    (λ c. search (playing, rules))  -- loop-at-init
    (λ c. search (playing, rules))  -- slice_bounds-play_line-count
    (λ c. search (playing, rules))  -- slice_bounds-play_line-start
    (λ c. search (playing, rules))  -- slice_bounds-play_line-end
    (λ c κs. search (playing, rules))  -- play_line-played-requires
    (λ c. search (playing, rules))  -- shape_of-values-then-not-played
    (λ c. search (playing, rules))  -- returns-then-not-played
    (λ c. search (playing, rules))  -- overflow_add-at
    (λ c. search (playing, rules))  -- overflow_add-right
    (λ c. search (playing, rules))  -- loop-at-smaller
    (λ c. search (playing, rules))  -- loop-at-preserved
    (λ c. search (playing, rules))  -- shape_of-values
    (λ c. search (playing, rules)))  -- returns
