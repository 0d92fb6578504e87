-- How long level texts are, at most and at least.
use Rattle.std.specs.Prelude.{refl, ◌/◌, ◌%◌, ◌≤◌, ◌<◌, ◌^◌, ℤ, pos, nat_abs, length}
use Rattle.std.proofs.Common.{ap, arith}
use Rattle.text.specs.Digits.Laws.{some_digits}
use Rattle.text.specs.Digits.Value.{digits-short}
use Rattle.text.specs.Level.{level_text, sign_text}
use Rattle.text.specs.Level.Laws.{sign_short, level-length}
use Rattle.text.specs.Level.Told.{short_none, tenth_short}

-- a number that the machine holds is written in at most 23 bytes
pub level-short : (v : ℤ) → nat_abs v < 2 ^ 64 → length (level_text v) ≤ 23
level-short v l =
    let s = sign_short v in
    let d = digits-short (nat_abs v / 10) 20 (omega arith) (omega arith) in
    let t = tenth_short (nat_abs v % 10) in
    omega (arith, level-length v)

-- no level has a shorter text than 0
pub zero_shortest : (v : ℤ) → length (level_text (pos 0)) ≤ length (level_text v)
unfolding sign_text
zero_shortest v =
    let d = digits-short 0 1 (omega arith) (omega arith) in
    let t = ap length (short_none 0 refl) in
    omega (arith, level-length (pos 0), level-length v, some_digits (nat_abs v / 10))
