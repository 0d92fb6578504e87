-- The parts of the buffer lie end to end, and within it.
use Rattle.std.specs.Prelude.{◌≡◌, List, [], ◌∷◌, ℕ, zero, suc, ◌+◌, ◌≤◌, ◌<◌, length, get_or, take}
use Rattle.std.proofs.Common.{arith, add-one}
use Rattle.connections.specs.Parts.{total, part_start}

total-take : (counts : List ℕ) (i : ℕ) → i < length counts → total (take (suc i) counts) ≡ total (take i counts) + get_or counts i 0
unfolding total
total-take [] i l = absurd (omega arith)
total-take (n ∷ ns) zero l = omega arith
total-take (n ∷ ns) (suc i) l = omega (arith, total-take ns i (omega arith))

-- the part of the next connection begins where this one's ends
pub start-next : (counts : List ℕ) (i : ℕ) → i < length counts → part_start counts (i + 1) ≡ part_start counts i + get_or counts i 0
unfolding part_start
start-next counts i l = rw add-one (total-take counts i l)

pub start-total : (counts : List ℕ) (i : ℕ) → part_start counts i ≤ total counts
unfolding part_start total
start-total [] zero = omega arith
start-total [] (suc i) = omega arith
start-total (n ∷ ns) zero = omega arith
start-total (n ∷ ns) (suc i) = omega (arith, start-total ns i)

-- the part of a connection lies within the buffer that the counts divide
pub part-within : (counts : List ℕ) (i : ℕ) → i < length counts → part_start counts i + get_or counts i 0 ≤ total counts
part-within counts i l = omega (arith, start-next counts i l, start-total counts (i + 1))
