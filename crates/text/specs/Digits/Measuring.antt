-- How many digits a number has: the loop that counts them.
use Rattle.std.specs.Prelude.{◌≡◌, ℕ, ◌+◌, ◌/◌, ◌≤◌, ◌<◌, length}
use Rattle.std.proofs.Common.{arith}
use Rattle.text.specs.Digits.{digits}
use Rattle.text.specs.Digits.Laws.{more-length, one_digit}

-- `count` is one more than the digits split off, and `rest` is left of n
pub record Counted (n rest count : ℕ) : Type 0 where
  pub left : length (digits n) + 1 ≡ count + length (digits rest)
  pub room : count + rest ≤ n + 1

pub counted_start : (n : ℕ) → Counted n n 1
counted_start n = record { left = omega arith; room = omega arith }

pub counted_next : (n rest count : ℕ) → Counted n rest count → 10 ≤ rest → Counted n (rest / 10) (count + 1)
counted_next n rest count c h =
    let e = more-length rest h in
    record { left = omega (arith, c.left); room = omega (arith, c.room) }

pub counted-end : (n rest count : ℕ) → Counted n rest count → rest < 10 → count ≡ length (digits n)
counted-end n rest count c h =
    let e : length (digits rest) ≡ 1 = rw (one_digit rest h) in
    omega (arith, c.left)

pub ruleset counting = (counted_start, counted_next, counted-end)
