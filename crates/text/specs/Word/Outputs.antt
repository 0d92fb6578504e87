-- Laws of a word's outputs: one put and read back, the others left, and words with the same outputs; and how the code reads and puts one.
use Rattle.std.specs.Prelude.{◌≡◌, ℕ, ◌+◌, ◌-◌, ◌*◌, ◌/◌, ◌%◌, ◌^◌, ◌≤◌, ◌<◌}
use Rattle.std.proofs.Common.{sym, ◌∙◌, ap, one-mul, shl_exact, Fits}
use native.Mathlib.Omega.{arith}
use Rattle.std.specs.Int.{w64}
use Rattle.text.specs.Word.{bit_at, bit, with_bit}
use Rattle.text.specs.Word.Bits.{bit-small, put_there, put_others, put_below, put_on, put_off, put_same, bits-same, bit_shifted}

pub output_small : (o w : ℕ) → bit o w < 2
unfolding bit
output_small o w = bit-small (32 - o) w

pub output_put : (o b w : ℕ) → b < 2 → bit o (with_bit o b w) ≡ b
unfolding bit with_bit
output_put o b w h = put_there (32 - o) b w h

-- an output put leaves every other output as it was
pub outputs_left : (o p b w : ℕ) → b < 2 → o ≤ 32 → p ≤ 32 → (o ≡ p → ⊥) → bit p (with_bit o b w) ≡ bit p w
unfolding bit with_bit
outputs_left o p b w h l m n = put_others (32 - o) (32 - p) b w h (λ e. n (omega arith))

pub output_same : (o w : ℕ) → with_bit o (bit o w) w ≡ w
unfolding bit with_bit
output_same o w = put_same (32 - o) w

-- a word stays one
pub word-stays : (o b w : ℕ) → b < 2 → 1 ≤ o → w < 2 ^ 32 → with_bit o b w < 2 ^ 32
unfolding with_bit
word-stays o b w h l p = put_below 32 (32 - o) b w h (omega arith) p

-- words with the same outputs are the same
pub outputs_same : (v w : ℕ) → v < 2 ^ 32 → w < 2 ^ 32 → ((o : ℕ) → 1 ≤ o → o ≤ 32 → bit o v ≡ bit o w) → v ≡ w
unfolding bit
outputs_same v w p q h =
    bits-same 32 v w p q
    (λ k l.
    let e : 32 - (32 - k) ≡ k = omega arith in
    ap (λ j. bit_at j v) (sym e) ∙ h (32 - k) (omega arith) (omega arith) ∙ ap (λ j. bit_at j w) e)

-- ---- an output as the code reads it

pub output_shifted : (o w : ℕ) → w / 2 ^ (32 - o) % 2 ≡ bit o w
unfolding bit
output_shifted o w = bit_shifted (32 - o) w

-- the bit of an output alone
pub place-shifted : (o : ℕ) → 1 * 2 ^ (32 - o) % 2 ^ 64 ≡ 2 ^ (32 - o)
place-shifted o = shl_exact {a = 1} 1 (32 - o) 64 (omega arith) (omega arith) ∙ one-mul (2 ^ (32 - o))

-- ---- an output as the code puts it: the bit is there, or it is added or taken away

module _ (o w b now : ℕ) (e : now ≡ bit o w) where
  pub put_already : now ≡ b → w ≡ with_bit o b w
  put_already h = sym (ap (λ c. with_bit o c w) (sym h ∙ e) ∙ output_same o w)

  module _ (h : b < 2) (n : now ≡ b → ⊥) (place : ℕ) (q : place ≡ 2 ^ (32 - o)) where
    was_on : b ≡ 0 → bit o w ≡ 1
    was_on z = let s = output_small o w in omega arith

    was_off : (b ≡ 0 → ⊥) → bit o w ≡ 0
    was_off z = let s = output_small o w in omega arith

    taken : b ≡ 0 → with_bit o b w + place ≡ w
    unfolding bit with_bit
    taken z = rw (z, q) (put_off (32 - o) w (was_on z))

    added : (b ≡ 0 → ⊥) → with_bit o b w ≡ w + place
    unfolding bit with_bit
    added z = let f : b ≡ 1 = omega arith in rw (f, q) (put_on (32 - o) w (was_off z))

    pub taken_room : b ≡ 0 → place ≤ w
    taken_room z = let t = taken z in omega arith

    pub put_taken : b ≡ 0 → w - place ≡ with_bit o b w
    put_taken z = let t = taken z in omega arith

    pub added_fits : (b ≡ 0 → ⊥) → w < 2 ^ 64 → Fits w64 (w + place)
    unfolding with_bit
    added_fits z l =
        let t = added z in
        let s = put_below 64 (32 - o) b w h (omega arith) l in
        record { fits = omega arith }

    pub put_added : (b ≡ 0 → ⊥) → w + place ≡ with_bit o b w
    put_added z = sym (added z)

pub ruleset putting = (put_already, taken_room, put_taken, added_fits, put_added)
