-- Texts put down one behind the other: that there is room for each.
use Rattle.std.specs.Prelude.{List, ◌++◌, ℕ, ◌+◌, ◌≤◌, length}
use Rattle.std.proofs.Common.{arith}
use Rattle.text.specs.Written.{Wrote}
use Rattle.text.specs.Written.Laws.{room_first, room_second}

pub room_third : (a b c l : List ℕ) (at j i : ℕ) (m n : List ℕ) → at + length (a ++ (b ++ c)) ≤ length l → Wrote l at a j m → Wrote m j b i n
    → i + length c ≤ length n
room_third a b c l at j i m n h v w = room_second b c m j i n (room_second a (b ++ c) l at j m h v) w

pub room_middle : (a b c l : List ℕ) (at j : ℕ) (m : List ℕ) → at + length (a ++ (b ++ c)) ≤ length l → Wrote l at a j m → j + length b ≤ length m
room_middle a b c l at j m h v = room_first b c j (length m) (room_second a (b ++ c) l at j m h v)

pub from_start : (n long : ℕ) → n ≤ long → 0 + n ≤ long
from_start n long h = omega arith
