-- How long level texts are: a rule for each return of the functions that measure them.
use Rattle.std.specs.Prelude.{◌≡◌, refl, true, false, ℕ, ◌+◌, ◌/◌, ◌%◌, ◌≤◌, ◌<◌, ◌^◌, ℤ, pos, nat_abs, length}
use Rattle.std.proofs.Common.{div-le_self, arith, Fits, SFits}
use Rattle.std.proofs.Math.ListN.{length-append}
use Rattle.std.specs.Int.Signed.{lt_z}
use Rattle.std.specs.Int.{w64}
use Rattle.std.proofs.Math.Facts.{to_z-of_z}
use Rattle.text.specs.Digits.{digits}
use Rattle.text.specs.Digits.Value.{digits-short}
use Rattle.text.specs.Level.{sign_text, short_tenth_text, whole_text, level_text}
use Rattle.text.specs.Level.Laws.{sign_short}
use Rattle.text.specs.Level.Told.{short_none, short_some, tenth_long, tenth_short}
use Rattle.text.specs.Level.Sign.{kept, sign_minus, sign_none, kept-size_fits}

pub minus-length : (v : ℤ) → SFits w64 v → lt_z (kept v) (pos 0) ≡ true → 1 ≡ length (sign_text v)
minus-length v f t = rw (sign_minus v f t)

pub no_sign_length : (v : ℤ) → SFits w64 v → lt_z (kept v) (pos 0) ≡ false → 0 ≡ length (sign_text v)
no_sign_length v f t = rw (sign_none v f t)

pub no_tenth_length : (d : ℕ) → d ≡ 0 → 0 ≡ length (short_tenth_text d)
no_tenth_length d e = rw (short_none d e)

pub tenth_length : (d : ℕ) → (d ≡ 0 → ⊥) → 2 ≡ length (short_tenth_text d)
tenth_length d e = rw (short_some d e, tenth_long d)

pub ruleset parts = (minus-length, no_sign_length, no_tenth_length, tenth_length)

-- the parts are measured of v as the code hands it on
module _ (v : ℤ) (size a b : ℕ) (f : SFits w64 v) (p : a ≡ length (sign_text (kept v))) where
  -- any part of v has at most 20 digits
  whole-short : (k : ℕ) → b ≡ length (digits (size / k)) → size ≡ nat_abs (kept v) → a + b ≤ 21
  whole-short k q e =
      let l : size < 2 ^ 64 = rw e (kept-size_fits v f).fits in
      let m = div-le_self size k in
      let s = sign_short (kept v) in
      let d = digits-short (size / k) 20 (omega arith) (omega arith) in
      omega arith

  pub whole-length_fits : (k : ℕ) → b ≡ length (digits (size / k)) → size ≡ nat_abs (kept v) → Fits w64 (a + b)
  whole-length_fits k q e = let w = whole-short k q e in record { fits = omega arith }

  pub level-length_fits : (k c d : ℕ) → b ≡ length (digits (size / k)) → size ≡ nat_abs (kept v) → c ≡ length (short_tenth_text d) → Fits w64 (a + b + c)
  level-length_fits k c d q e r =
      let w = whole-short k q e in
      let s = tenth_short d in
      record { fits = omega arith }

  pub level-length_is : (c : ℕ) → b ≡ length (digits (size / 10)) → size ≡ nat_abs (kept v) → c ≡ length (short_tenth_text (size % 10))
      → a + b + c ≡ length (level_text v)
  unfolding level_text whole_text
  level-length_is c q e r = simp length-append (rw (p, q, r, e, to_z-of_z f) refl)

pub ruleset level-lengths = (whole-length_fits, level-length_fits, level-length_is)
