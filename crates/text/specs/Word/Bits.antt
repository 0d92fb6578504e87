-- Laws of the bits of a number: a bit put and read back, the others left, numbers with the same bits, and bits by powers of two.
use Rattle.std.specs.Prelude.{◌≡◌, refl, ℕ, zero, suc, ◌+◌, ◌*◌, ◌/◌, ◌%◌, ◌^◌, ◌<◌}
use Rattle.std.proofs.Common.{sym, ◌∙◌, ap, arith, pow_pos, shr-shr}
use Rattle.std.proofs.Math.Arith.{mod-mul}
use Rattle.text.specs.Word.{bit_at, put_at}

pub bit-small : (k w : ℕ) → bit_at k w < 2
unfolding bit_at
bit-small zero w = omega arith
bit-small (suc k) w = bit-small k (w / 2)

-- ---- a bit put

pub put_there : (k b w : ℕ) → b < 2 → bit_at k (put_at k b w) ≡ b
unfolding bit_at put_at
put_there zero b w h = omega arith
put_there (suc k) b w h =
    let e : (put_at k b (w / 2) * 2 + w % 2) / 2 ≡ put_at k b (w / 2) = omega arith in
    rw e (put_there k b (w / 2) h)

pub put_others : (k j b w : ℕ) → b < 2 → (k ≡ j → ⊥) → bit_at j (put_at k b w) ≡ bit_at j w
unfolding bit_at put_at
put_others zero zero b w h n = absurd (n refl)
put_others zero (suc j) b w h n =
    let e : (w / 2 * 2 + b) / 2 ≡ w / 2 = omega arith in
    rw e refl
put_others (suc k) zero b w h n = omega arith
put_others (suc k) (suc j) b w h n =
    let e : (put_at k b (w / 2) * 2 + w % 2) / 2 ≡ put_at k b (w / 2) = omega arith in
    rw e (put_others k j b (w / 2) h (λ q. n (ap suc q)))

pub put_below : (n k b w : ℕ) → b < 2 → k < n → w < 2 ^ n → put_at k b w < 2 ^ n
unfolding put_at
put_below zero k b w h l p = absurd (omega arith)
put_below (suc n) zero b w h l p = omega arith
put_below (suc n) (suc k) b w h l p = let e = put_below n k b (w / 2) h (omega arith) (omega arith) in omega arith

-- as sums
pub put_on : (k w : ℕ) → bit_at k w ≡ 0 → put_at k 1 w ≡ w + 2 ^ k
unfolding bit_at put_at
put_on zero w h = omega arith
put_on (suc k) w h = let e = put_on k (w / 2) h in omega arith

pub put_off : (k w : ℕ) → bit_at k w ≡ 1 → put_at k 0 w + 2 ^ k ≡ w
unfolding bit_at put_at
put_off zero w h = omega arith
put_off (suc k) w h = let e = put_off k (w / 2) h in omega arith

pub put_same : (k w : ℕ) → put_at k (bit_at k w) w ≡ w
unfolding bit_at put_at
put_same zero w = omega arith
put_same (suc k) w = let e = put_same k (w / 2) in omega arith

-- ---- all bits

-- two numbers of n bits with the same bits are the same
pub bits-same : (n v w : ℕ) → v < 2 ^ n → w < 2 ^ n → ((k : ℕ) → k < n → bit_at k v ≡ bit_at k w) → v ≡ w
unfolding bit_at
bits-same zero v w p q h = omega arith
bits-same (suc n) v w p q h =
    let e : v / 2 ≡ w / 2 = bits-same n (v / 2) (w / 2) (omega arith) (omega arith) (λ k l. h (suc k) (omega arith)) in
    let b : v % 2 ≡ w % 2 = h 0 (omega arith) in
    omega arith

-- ---- bits by powers of two

-- the m + 1 lowest bits are those above the lowest, and the lowest
pub lows_halved : (m w : ℕ) → w % 2 ^ suc m ≡ (w / 2 % 2 ^ m) * 2 + w % 2
lows_halved m w =
    let e : 2 ^ suc m ≡ 2 ^ m * 2 = omega arith in
    rw e (mod-mul w {m = 2 ^ m} {c = 2} (pow_pos m) (omega arith))

pub bit_shifted : (k w : ℕ) → w / 2 ^ k % 2 ≡ bit_at k w
unfolding bit_at
bit_shifted zero w = omega arith
bit_shifted (suc k) w =
    let e : 1 + k ≡ suc k = omega arith in
    let f : w / 2 / 2 ^ k ≡ w / 2 ^ suc k = shr-shr w 1 k ∙ ap (λ j. w / 2 ^ j) e in
    ap (λ x. x % 2) (sym f) ∙ bit_shifted k (w / 2)

-- the bits that a remainder keeps
pub bit_kept : (n k w : ℕ) → k < n → bit_at k (w % 2 ^ n) ≡ bit_at k w
unfolding bit_at
bit_kept zero k w h = absurd (omega arith)
bit_kept (suc n) zero w h = let e = lows_halved n w in omega arith
bit_kept (suc n) (suc k) w h =
    let e = lows_halved n w in
    let f : w % 2 ^ suc n / 2 ≡ w / 2 % 2 ^ n = omega arith in
    rw f (bit_kept n k (w / 2) (omega arith))
