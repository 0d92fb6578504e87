-- How level texts are written: a rule for each return and each call of a writer.
use Rattle.std.specs.Prelude.{◌≡◌, true, false, ℕ, ◌+◌, ◌/◌, ◌%◌, ◌≤◌, ℤ, pos, nat_abs, length}
use Rattle.std.proofs.Common.{◌∙◌, ap, arith, SFits}
use mathlib.Core.List.{List, [], ◌∷◌, append-nil}
use Rattle.std.specs.Int.Signed.{le_z}
use Rattle.std.specs.Int.{w64}
use Rattle.std.proofs.Math.Facts.{to_z-of_z}
use Rattle.text.specs.Digits.{digits}
use Rattle.text.specs.Level.{sign_text, tenth_text, short_tenth_text, whole_text, level_text}
use Rattle.text.specs.Level.Sign.{kept, a-minus, no_minus}
use Rattle.text.specs.Level.Told.{short_none, short_some, tenth_long}
use Rattle.text.specs.Written.{Wrote}
use Rattle.text.specs.Written.Laws.{past_by, room_first, room_second, wrote_join, wrote_length, wrote_nothing}

module _ (v : ℤ) (at : ℕ) (f : SFits w64 v) where
  pub wrote_no_sign : (l : List ℕ) → le_z (pos 0) (kept v) ≡ true → Wrote l at (sign_text v) at l
  wrote_no_sign l t = rw (no_minus v f t) (wrote_nothing l at)

  pub sign_room : (long : ℕ) → le_z (pos 0) (kept v) ≡ false → at + length (sign_text v) ≤ long → at + 1 ≤ long
  sign_room long t r = rw (a-minus v f t) at r

  pub wrote_minus : (l : List ℕ) (r : ℕ) (m : List ℕ) → le_z (pos 0) (kept v) ≡ false → Wrote l at (45 ∷ []) r m → Wrote l at (sign_text v) r m
  wrote_minus l r m t w = rw (a-minus v f t) w

pub ruleset sign_writing = (wrote_no_sign, sign_room, wrote_minus)

pub wrote_tenth : (l : List ℕ) (at d j r : ℕ) (m k : List ℕ) → Wrote l at (46 ∷ []) j m → Wrote m j ((48 + d) ∷ []) r k → Wrote l at (tenth_text d) r k
unfolding tenth_text
wrote_tenth l at d j r m k a b = wrote_join a b

pub digit_room : (l : List ℕ) (b at j : ℕ) (m : List ℕ) → at + 2 ≤ length l → Wrote l at (b ∷ []) j m → j + 1 ≤ length m
digit_room l b at j m h w = omega (arith, past_by w, wrote_length w)

pub ruleset tenth_writing = (digit_room, wrote_tenth)

pub whole-first : (v : ℤ) (at long : ℕ) → at + length (whole_text v) ≤ long → at + length (sign_text v) ≤ long
unfolding whole_text
whole-first v at long r = room_first (sign_text v) (digits (nat_abs v / 10)) at long r

-- a callee is handed v as the code keeps it
module _ (v : ℤ) (l : List ℕ) (at j size : ℕ) (m : List ℕ) (f : SFits w64 v) (w : Wrote l at (sign_text (kept v)) j m) (e : size ≡ nat_abs (kept v)) where
  pub whole-second : at + length (whole_text v) ≤ length l → j + length (digits (size / 10)) ≤ length m
  unfolding whole_text
  whole-second r = rw (e, to_z-of_z f) (room_second (sign_text v) (digits (nat_abs v / 10)) l at j m r (rw (to_z-of_z f) at w))

  pub wrote_whole : (r : ℕ) (k : List ℕ) → Wrote m j (digits (size / 10)) r k → Wrote l at (whole_text v) r k
  unfolding whole_text
  wrote_whole r k b = rw (e, to_z-of_z f) at (wrote_join w b)

pub ruleset whole-writing = (whole-first, whole-second, wrote_whole)

pub level-first : (v : ℤ) (at long : ℕ) → at + length (level_text v) ≤ long → at + length (whole_text v) ≤ long
unfolding level_text
level-first v at long r = room_first (whole_text v) (short_tenth_text (nat_abs v % 10)) at long r

module _ (v : ℤ) (l : List ℕ) (at j size : ℕ) (m : List ℕ) (f : SFits w64 v) (w : Wrote l at (whole_text (kept v)) j m) (e : size ≡ nat_abs (kept v)) where
  wrote : Wrote l at (whole_text v) j m
  wrote = rw (to_z-of_z f) at w

  size_is : size ≡ nat_abs v
  size_is = e ∙ ap nat_abs (to_z-of_z f)

  pub level-second : (size % 10 ≡ 0 → ⊥) → at + length (level_text v) ≤ length l → j + 2 ≤ length m
  unfolding level_text
  level-second z r =
      let s : short_tenth_text (nat_abs v % 10) ≡ tenth_text (nat_abs v % 10) = short_some (nat_abs v % 10) (rw size_is at z) in
      let k = room_second (whole_text v) (short_tenth_text (nat_abs v % 10)) l at j m r wrote in
      rw (s, tenth_long (nat_abs v % 10)) at k

  pub wrote_short : size % 10 ≡ 0 → Wrote l at (level_text v) j m
  unfolding level_text
  wrote_short z = rw (short_none (nat_abs v % 10) (rw size_is at z), append-nil (whole_text v)) wrote

  pub wrote_level : (r : ℕ) (k : List ℕ) → (size % 10 ≡ 0 → ⊥) → Wrote m j (tenth_text (size % 10)) r k → Wrote l at (level_text v) r k
  unfolding level_text
  wrote_level r k z b = rw (short_some (nat_abs v % 10) (rw size_is at z)) (rw size_is at (wrote_join wrote b))

pub ruleset level-writing = (level-first, level-second, wrote_short, wrote_level)
