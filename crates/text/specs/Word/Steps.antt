-- Which numbers are words of n outputs: from 0 in steps of the last output's bit up to the word with every output, which are the words that have no output over n.
use Rattle.std.specs.Prelude.{◌≡◌, refl, Bool, true, false, ◌&&◌, ℕ, zero, suc, ◌+◌, ◌-◌, ◌*◌, ◌/◌, ◌%◌, ◌^◌, ◌≤◌, ◌<◌, eqb, ltb, leb}
use Rattle.std.proofs.Math.Bool.{and-false}
use Rattle.std.proofs.Math.Decide.{dec_le}
use Rattle.std.proofs.Common.{mul-le-mul_right, suc-mul, arith, eq-eqb, ne_eqb, eqb-true, le-leb, le-ltb, lt-ltb, pow_pos, pow-add, shr_lt}
use Rattle.std.proofs.lemmas.Bool.{lt-leb}
use Rattle.std.proofs.Math.Pow.{split}
use Rattle.text.specs.Every.Laws.{both}
use Rattle.text.specs.Word.{bit_at, put_at, bit, with_bit}
use Rattle.text.specs.Word.Bits.{lows_halved}

-- the m lowest bits are 0
unfoldable pub lows_zero : ℕ → ℕ → Bool
lows_zero zero w = true
lows_zero (suc m) w = eqb (w % 2) 0 && lows_zero m (w / 2)

-- a word has no output over n
unfoldable pub none_over : ℕ → ℕ → Bool
none_over n w = lows_zero (32 - n) w

-- ---- bit by bit

lows_off : (m w : ℕ) → lows_zero m w ≡ true → (k : ℕ) → k < m → bit_at k w ≡ 0
unfolding lows_zero bit_at
lows_off zero w e k l = absurd (omega arith)
lows_off (suc m) w e zero l = eqb-true (w % 2) 0 (both (eqb (w % 2) 0) (lows_zero m (w / 2)) e).0
lows_off (suc m) w e (suc k) l = lows_off m (w / 2) (both (eqb (w % 2) 0) (lows_zero m (w / 2)) e).1 k (omega arith)

off_lows : (m w : ℕ) → ((k : ℕ) → k < m → bit_at k w ≡ 0) → lows_zero m w ≡ true
unfolding lows_zero bit_at
off_lows zero w h = refl
off_lows (suc m) w h = rw (eq-eqb (w % 2) 0 (h 0 (omega arith))) (off_lows m (w / 2) (λ k l. h (suc k) (omega arith)))

pub over_off : (n w : ℕ) → none_over n w ≡ true → (o : ℕ) → n < o → o ≤ 32 → bit o w ≡ 0
unfolding none_over bit
over_off n w e o l m = lows_off (32 - n) w e (32 - o) (omega arith)

pub off_over : (n w : ℕ) → ((o : ℕ) → n < o → o ≤ 32 → bit o w ≡ 0) → none_over n w ≡ true
unfolding none_over bit
off_over n w h =
    off_lows (32 - n) w
    (λ k l.
    let e : 32 - (32 - k) ≡ k = omega arith in
    rw e at (h (32 - k) (omega arith) (omega arith)))

-- an output up to n may be put
lows_put : (m k b w : ℕ) → m ≤ k → lows_zero m w ≡ true → lows_zero m (put_at k b w) ≡ true
unfolding lows_zero put_at
lows_put zero k b w h e = refl
lows_put (suc m) zero b w h e = absurd (omega arith)
lows_put (suc m) (suc k) b w h e =
    let t = both (eqb (w % 2) 0) (lows_zero m (w / 2)) e in
    let s : w % 2 ≡ 0 = eqb-true (w % 2) 0 t.0 in
    let r = lows_put m k b (w / 2) (omega arith) t.1 in
    let d : (put_at k b (w / 2) * 2 + w % 2) / 2 ≡ put_at k b (w / 2) = omega arith in
    let z : (put_at k b (w / 2) * 2 + w % 2) % 2 ≡ 0 = omega arith in
    rw (eq-eqb ((put_at k b (w / 2) * 2 + w % 2) % 2) 0 z, d) r

pub none_over-put : (n o b w : ℕ) → o ≤ n → none_over n w ≡ true → none_over n (with_bit o b w) ≡ true
unfolding none_over with_bit
none_over-put n o b w h e = lows_put (32 - n) (32 - o) b w (omega arith) e

-- ---- in steps

steps_lows : (m w : ℕ) → eqb (w % 2 ^ m) 0 ≡ lows_zero m w
unfolding lows_zero
steps_lows zero w = eq-eqb (w % 1) 0 (omega arith)
steps_lows (suc m) w = go (dec_le (w % 2) 0) (dec_le (w / 2 % 2 ^ m) 0) (steps_lows m (w / 2)) (lows_halved m w)
  where
    go : Dec (w % 2 ≤ 0) → Dec (w / 2 % 2 ^ m ≤ 0) → eqb (w / 2 % 2 ^ m) 0 ≡ lows_zero m (w / 2) → w % 2 ^ suc m ≡ (w / 2 % 2 ^ m) * 2 + w % 2
        → eqb (w % 2 ^ suc m) 0 ≡ (eqb (w % 2) 0 && lows_zero m (w / 2))
    go (yes a) (yes b) ih h =
        rw (eq-eqb (w % 2 ^ suc m) 0 (omega arith), eq-eqb (w % 2) 0 (omega arith), ← ih, eq-eqb (w / 2 % 2 ^ m) 0 (omega arith)) refl
    go (yes a) (no b) ih h =
        rw (ne_eqb (w % 2 ^ suc m) 0 (λ e. b (omega arith)), eq-eqb (w % 2) 0 (omega arith), ← ih, ne_eqb (w / 2 % 2 ^ m) 0 (λ e. b (omega arith))) refl
    go (no a) d ih h = rw (ne_eqb (w % 2 ^ suc m) 0 (λ e. a (omega arith)), ne_eqb (w % 2) 0 (λ e. a (omega arith))) refl

high_word : (n m w : ℕ) → w < 2 ^ (n + m) → w % 2 ^ m ≡ 0 → w ≤ 2 ^ (n + m) - 2 ^ m
high_word n m w l z =
    let q = w / 2 ^ m in
    let e : q * 2 ^ m + w % 2 ^ m ≡ w = split w m in
    let s = shr_lt {n = w} n m l in
    let r : suc q * 2 ^ m ≤ 2 ^ n * 2 ^ m = mul-le-mul_right (2 ^ m) s in
    let d : suc q * 2 ^ m ≡ q * 2 ^ m + 2 ^ m = suc-mul q (2 ^ m) in
    let p : 2 ^ (n + m) ≡ 2 ^ n * 2 ^ m = pow-add 2 n m in
    omega arith

steps_of : (n m w : ℕ) → (leb w (2 ^ (n + m) - 2 ^ m) && eqb (w % 2 ^ m) 0) ≡ (ltb w (2 ^ (n + m)) && lows_zero m w)
steps_of n m w = go (dec_le (w % 2 ^ m) 0) (dec_le (suc w) (2 ^ (n + m))) (steps_lows m w)
  where
    go : Dec (w % 2 ^ m ≤ 0) → Dec (suc w ≤ 2 ^ (n + m)) → eqb (w % 2 ^ m) 0 ≡ lows_zero m w
        → (leb w (2 ^ (n + m) - 2 ^ m) && eqb (w % 2 ^ m) 0) ≡ (ltb w (2 ^ (n + m)) && lows_zero m w)
    go (yes a) (yes b) e = rw (le-leb w (2 ^ (n + m) - 2 ^ m) (high_word n m w b (omega arith)), lt-ltb w (2 ^ (n + m)) b) e
    go (yes a) (no b) e =
        rw (lt-leb w (2 ^ (n + m) - 2 ^ m) (omega (arith, pow_pos m, pow_pos (n + m))), le-ltb w (2 ^ (n + m)) (omega arith)) refl
    go (no a) d e =
        let z : eqb (w % 2 ^ m) 0 ≡ false = ne_eqb (w % 2 ^ m) 0 (λ e. a (omega arith)) in
        rw (← e, z, and-false (leb w (2 ^ (n + m) - 2 ^ m)), and-false (ltb w (2 ^ (n + m)))) refl

-- the words of n outputs
pub words_of : (n w : ℕ) → n ≤ 32 → (leb w (2 ^ 32 - 2 ^ (32 - n)) && eqb (w % 2 ^ (32 - n)) 0) ≡ (ltb w (2 ^ 32) && none_over n w)
unfolding none_over
words_of n w h = let e : n + (32 - n) ≡ 32 = omega arith in rw e at (steps_of n (32 - n) w)
