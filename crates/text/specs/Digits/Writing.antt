-- How digits are written: a rule for each return and each call of the writer.
use Rattle.std.specs.Prelude.{◌≡◌, List, [], ◌∷◌, ℕ, ◌+◌, ◌/◌, ◌%◌, ◌≤◌, ◌<◌, length}
use Rattle.std.proofs.Math.Decide.{dec_lt}
use Rattle.std.proofs.Common.{arith}
use Rattle.text.specs.Digits.{digits}
use Rattle.text.specs.Digits.Laws.{one_digit, more-digits, more-length, some_digits}
use Rattle.text.specs.Written.{Wrote}
use Rattle.text.specs.Written.Laws.{wrote_join, wrote_length, past_by}

pub one_room : (n at long : ℕ) → at + length (digits n) ≤ long → at + 1 ≤ long
one_room n at long r = let e = some_digits n in omega arith

pub wrote_one : (l : List ℕ) (at n r : ℕ) (m : List ℕ) → n < 10 → Wrote l at ((48 + n) ∷ []) r m → Wrote l at (digits n) r m
wrote_one l at n r m h w = rw (one_digit n h) w

front-short : (n : ℕ) → length (digits (n / 10)) ≤ length (digits n)
front-short n = go (dec_lt n 10)
  where
    go : Dec (n < 10) → length (digits (n / 10)) ≤ length (digits n)
    go (yes l) =
        let e : length (digits (n / 10)) ≡ 1 = rw (one_digit (n / 10) (omega arith)) in
        let o = some_digits n in
        omega arith
    go (no m) = let e = more-length n (omega arith) in omega arith

pub front-room : (n at long : ℕ) → at + length (digits n) ≤ long → at + length (digits (n / 10)) ≤ long
front-room n at long r = let e = front-short n in omega arith

pub last_room : (l : List ℕ) (at n j : ℕ) (m : List ℕ) → 10 ≤ n → at + length (digits n) ≤ length l → Wrote l at (digits (n / 10)) j m → j + 1 ≤ length m
last_room l at n j m h r w =
    let e = more-length n h in
    let f = wrote_length w in
    omega (arith, past_by w)

pub wrote_more : (l : List ℕ) (at n j r : ℕ) (m k : List ℕ) → 10 ≤ n → Wrote l at (digits (n / 10)) j m → Wrote m j ((48 + n % 10) ∷ []) r k
    → Wrote l at (digits n) r k
wrote_more l at n j r m k h a b = rw (more-digits n h) (wrote_join a b)

pub ruleset number-writing = (one_room, front-room, last_room, wrote_more)
