-- Whose turn it is: the round begins behind the last served, goes up to 31 and on from 0, and the first in it that waits is next.
use Rattle.std.specs.Prelude.{Bool, false, cond, ◌&&◌, List, ℕ, zero, suc, ◌+◌, ◌%◌, ltb, get_or, None, Option, Some}

-- a connection waits where it is open and has bytes waiting: `flags` tells which are open
unfoldable pub waits_by : (flags : List Bool) → (counts : List ℕ) → ℕ → Bool
waits_by flags counts i = get_or flags i false && ltb 0 (get_or counts i 0)

-- of the `left` connections that come after `passed` others in the round, the first that waits. After 31 comes 0
unfoldable pub seek : (left passed last : ℕ) → (waits : ℕ → Bool) → Option ℕ
seek zero passed last waits = None
seek (suc left) passed last waits =
    cond (waits ((last + 1 + passed) % 32)) (Some ((last + 1 + passed) % 32)) (seek left (passed + 1) last waits)

-- the whole round: the last served comes last in it
unfoldable pub next : (last : ℕ) → (waits : ℕ → Bool) → Option ℕ
next last waits = seek 32 0 last waits

-- the last served as it stands after a turn
unfoldable pub last_after : (last : ℕ) → Option ℕ → ℕ
last_after last None = last
last_after last (Some i) = i
