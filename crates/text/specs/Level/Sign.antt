-- Signs as the code takes and gives them: a signed number is kept as its bits, and read back as the number that it was.
use Rattle.std.specs.Prelude.{◌≡◌, refl, Bool, true, false, [], ◌∷◌, ℕ, zero, suc, ◌+◌, ◌-◌, ◌^◌, ◌≤◌, ◌<◌, T, ℤ, pos, negsuc, neg_ℤ, nat_abs, ◌+ℤ◌, ◌-ℤ◌}
use Rattle.std.proofs.Common.{◌∙◌, arith, le-leb, ltb-true, to_z-of_z}
use Rattle.std.proofs.Math.IntN.{+ℤ_idl, +ℤ_one}
use Rattle.std.specs.Int.Signed.{lt_z, le_z, non_neg}
use Rattle.std.specs.Int.{w64}
use mir.Val.{Fits, SFits, to_z, of_z, hbits}
use Rattle.std.proofs.Math.Facts.{to_z_pos}
use Rattle.text.specs.Level.{signed, sign_text}

from_zero : (n : ℕ) → pos 0 -ℤ pos n ≡ neg_ℤ (pos n)
from_zero n = +ℤ_idl (neg_ℤ (pos n))

negative_fits : (n : ℕ) → n ≤ 2 ^ 63 → SFits w64 (neg_ℤ (pos n))
negative_fits zero h = record { sfits = omega arith }
negative_fits (suc n) h = record { sfits = omega arith }

-- ---- a sign given to n

read_plain : (n : ℕ) → n < 1000 → to_z w64 n ≡ pos n
read_plain n h = to_z_pos w64 (let l : n < 2 ^ hbits w64 = omega arith in l)

pub minus-fits : (n : ℕ) → n < 1000 → SFits w64 (pos 0 -ℤ to_z w64 n)
minus-fits n h = rw (read_plain n h, from_zero n) (negative_fits n (omega arith))

pub minus-taken : (minus : Bool) (n : ℕ) → n < 1000 → minus ≡ true → to_z w64 (of_z w64 (pos 0 -ℤ to_z w64 n)) ≡ signed minus n
unfolding signed
minus-taken minus n h e = to_z-of_z (minus-fits n h) ∙ rw (read_plain n h, e) (from_zero n)

pub minus-left : (minus : Bool) (n : ℕ) → n < 1000 → minus ≡ false → to_z w64 n ≡ signed minus n
unfolding signed
minus-left minus n h e = rw (read_plain n h, e)

pub ruleset sign_given = (minus-fits, minus-taken, minus-left)

-- ---- the size of v

negated : (n : ℕ) → neg_ℤ (neg_ℤ (pos n)) ≡ pos n
negated zero = refl
negated (suc n) = refl

up : (n : ℕ) → negsuc n +ℤ pos 1 ≡ neg_ℤ (pos n)
up zero = refl
up (suc n) = +ℤ_one (negsuc (suc n))

-- v as the code reads it, and what is one less than the size of a v below 0
abbrev pub kept : ℤ → ℤ
kept v = to_z w64 (of_z w64 v)

abbrev pub turned : ℤ → ℤ
turned v = pos 0 -ℤ kept (kept v +ℤ pos 1)

-- the size is one to 2 ^ 63 where v is below 0
record Below (v : ℤ) : Type 0 where
  some : 1 ≤ nat_abs v
  room : nat_abs v ≤ 2 ^ 63
  risen : kept v +ℤ pos 1 ≡ neg_ℤ (pos (nat_abs v - 1))

below_zero : (v : ℤ) → SFits w64 v → lt_z v (pos 0) ≡ true → Below v
below_zero (pos n) f t = absurd (let z = ltb-true n 0 t in omega arith)
below_zero (negsuc n) f t =
    let e : n ≡ suc n - 1 = omega arith in
    record { some = omega arith; room = omega (arith, f.sfits); risen = rw (to_z-of_z f, ← e) (up n) }

module _ (v : ℤ) (f : SFits w64 v) (t : lt_z (kept v) (pos 0) ≡ true) where
  below : Below v
  below = below_zero v f (rw (to_z-of_z f) at t)

  turned-is : turned v ≡ pos (nat_abs v - 1)
  turned-is =
      let b = below in
      rw (b.risen, to_z-of_z (negative_fits (nat_abs v - 1) (omega arith)), +ℤ_idl (neg_ℤ (neg_ℤ (pos (nat_abs v - 1))))) (negated (nat_abs v - 1))

  kept-is : kept (turned v) ≡ pos (nat_abs v - 1)
  kept-is =
      let b = below in
      rw turned-is (to_z_pos w64 (let l : nat_abs v - 1 < 2 ^ hbits w64 = omega arith in l))

  pub up_fits : SFits w64 (kept v +ℤ pos 1)
  up_fits = let b = below in rw b.risen (negative_fits (nat_abs v - 1) (omega arith))

  pub turned-fits : SFits w64 (turned v)
  turned-fits = let b = below in rw turned-is (record { sfits = omega arith })

  pub turned_plain : T (non_neg (kept (turned v)))
  turned_plain = rw kept-is tt

  pub turned-size_fits : Fits w64 (nat_abs (kept (turned v)))
  turned-size_fits = let b = below in rw kept-is (record { fits = omega arith })

  pub size_fits : (k : ℕ) → k ≤ 2 → Fits w64 (nat_abs (kept (turned v)) + k)
  size_fits k h = let b = below in rw kept-is (record { fits = omega arith })

  pub size_is : nat_abs (kept (turned v)) + 1 ≡ nat_abs v
  size_is = let b = below in rw kept-is (omega arith)

plain : (v : ℤ) → lt_z v (pos 0) ≡ false → T (non_neg v)
plain (pos n) t = tt
plain (negsuc n) t = absurd (let z : ◌≡◌ {A = ℕ} 0 1 = cc in omega arith)

size_holds : (v : ℤ) → SFits w64 v → Fits w64 (nat_abs v)
size_holds (pos n) f = record { fits = omega (arith, f.sfits) }
size_holds (negsuc n) f = record { fits = omega (arith, f.sfits) }

pub kept-plain : (v : ℤ) → SFits w64 v → lt_z (kept v) (pos 0) ≡ false → T (non_neg (kept v))
kept-plain v f t = plain (kept v) t

pub kept-size_fits : (v : ℤ) → SFits w64 v → Fits w64 (nat_abs (kept v))
kept-size_fits v f = rw (to_z-of_z f) (size_holds v f)

pub kept-size : (v : ℤ) → SFits w64 v → nat_abs (kept v) ≡ nat_abs v
kept-size v f = rw (to_z-of_z f)

pub ruleset sizes = (up_fits, turned-fits, turned_plain, turned-size_fits, size_fits, size_is, kept-plain, kept-size_fits, kept-size)

-- ---- the sign as text

minus-text : (v : ℤ) → lt_z v (pos 0) ≡ true → sign_text v ≡ 45 ∷ []
unfolding sign_text
minus-text (pos n) t = absurd (let z = ltb-true n 0 t in omega arith)
minus-text (negsuc n) t = refl

no_text : (v : ℤ) → lt_z v (pos 0) ≡ false → sign_text v ≡ []
unfolding sign_text
no_text (pos n) t = refl
no_text (negsuc n) t = absurd (let z : ◌≡◌ {A = ℕ} 0 1 = cc in omega arith)

pub sign_minus : (v : ℤ) → SFits w64 v → lt_z (kept v) (pos 0) ≡ true → sign_text v ≡ 45 ∷ []
sign_minus v f t = minus-text v (rw (to_z-of_z f) at t)

pub sign_none : (v : ℤ) → SFits w64 v → lt_z (kept v) (pos 0) ≡ false → sign_text v ≡ []
sign_none v f t = no_text v (rw (to_z-of_z f) at t)

-- ---- the same, where the code asks whether v is 0 or above

plain-text : (v : ℤ) → le_z (pos 0) v ≡ true → sign_text v ≡ []
unfolding sign_text
plain-text (pos n) t = refl
plain-text (negsuc n) t = absurd (let z : ◌≡◌ {A = ℕ} 0 1 = cc in omega arith)

below_text : (v : ℤ) → le_z (pos 0) v ≡ false → sign_text v ≡ 45 ∷ []
unfolding sign_text
below_text (pos n) t = absurd (let z : ◌≡◌ {A = ℕ} 0 1 = cc (le-leb 0 n (omega arith)) in omega arith)
below_text (negsuc n) t = refl

pub no_minus : (v : ℤ) → SFits w64 v → le_z (pos 0) (kept v) ≡ true → sign_text v ≡ []
no_minus v f t = plain-text v (rw (to_z-of_z f) at t)

pub a-minus : (v : ℤ) → SFits w64 v → le_z (pos 0) (kept v) ≡ false → sign_text v ≡ 45 ∷ []
a-minus v f t = below_text v (rw (to_z-of_z f) at t)
