-- What a level text says, state by state: a whole part, a tenth, and how few bytes can write them.
use Rattle.std.specs.Prelude.{◌≡◌, Bool, eqb, ℤ, Some, None}
use Rattle.std.proofs.Math.Path.{refl}
use Rattle.std.proofs.Common.{ap}
use Rattle.std.proofs.Math.Bool.{true, false, cond}
use mathlib.Core.List.{List, [], ◌∷◌}
use Prim.Native.Nat.{ℕ, zero, suc, ◌+◌, ◌-◌, ◌*◌, ◌≤◌, ◌<◌}
use native.Mathlib.Omega.{arith}
use Rattle.std.proofs.Math.ListN.{length}
use Rattle.text.specs.Digits.{is_digit, digits}
use Rattle.text.specs.Digits.Laws.{digit_range}
use Rattle.text.specs.Digits.Value.{digits-short}
use Rattle.text.specs.Level.{signed, level_tenth, level_point, level_more, level_whole, read_level, tenth_text, short_tenth_text}

-- v is told by a whole part and a tenth, which can be written in `room` bytes
pub record Told (minus : Bool) (room : ℕ) (v : ℤ) : Type 0 where
  pub whole : ℕ
  pub tenth : ℕ
  pub below_hundred : whole < 100
  pub below_ten : tenth < 10
  pub value : v ≡ signed minus (whole * 10 + tenth)
  pub short : length (digits whole) + length (short_tenth_text tenth) ≤ room

clash : (v : ℤ) → None ≡ Some v → ⊥
clash v e = let z : ◌≡◌ {A = ℕ} 0 1 = cc in omega arith

pub tenth_short : (d : ℕ) → length (short_tenth_text d) ≤ 2
unfolding short_tenth_text tenth_text
tenth_short zero = omega arith
tenth_short (suc d) = omega arith

pub short_none : (d : ℕ) → d ≡ 0 → short_tenth_text d ≡ []
unfolding short_tenth_text
short_none zero e = refl
short_none (suc d) e = absurd (omega arith)

pub short_some : (d : ℕ) → (d ≡ 0 → ⊥) → short_tenth_text d ≡ tenth_text d
unfolding short_tenth_text
short_some zero e = absurd (e refl)
short_some (suc d) e = refl

pub tenth_long : (d : ℕ) → length (tenth_text d) ≡ 2
unfolding tenth_text
tenth_long d = refl

module _ (minus : Bool) (v : ℤ) where
  tenth_told : (w room : ℕ) (s : List ℕ) → w < 100 → length (digits w) ≤ room → level_tenth minus w s ≡ Some v → Told minus (room + 1 + length s) v
  unfolding level_tenth
  tenth_told w room [] h l e = absurd (clash v e)
  tenth_told w room (b ∷ []) h l e = go (is_digit b) refl e
    where
      go : (t : Bool) → is_digit b ≡ t → cond t (Some (signed minus (w * 10 + (b - 48)))) None ≡ Some v → Told minus (room + 1 + 1) v
      go true p e =
          let r = digit_range b p in
          let s = tenth_short (b - 48) in
          record { whole = w; tenth = b - 48; below_hundred = h; below_ten = omega arith; value = cc; short = omega arith }
      go false p e = absurd (clash v e)
  tenth_told w room (b ∷ c ∷ s) h l e = absurd (clash v e)

  point_told : (w room : ℕ) (s : List ℕ) → w < 100 → length (digits w) ≤ room → level_point minus w s ≡ Some v → Told minus (room + length s) v
  unfolding level_point short_tenth_text
  point_told w room [] h l e =
      let z : w * 10 ≡ w * 10 + 0 = omega arith in
      record { whole = w; tenth = 0; below_hundred = h; below_ten = omega arith; value = cc (ap (signed minus) z); short = omega arith }
  point_told w room (b ∷ s) h l e = go (eqb b 46) e
    where
      go : (t : Bool) → cond t (level_tenth minus w s) None ≡ Some v → Told minus (room + suc (length s)) v
      go true e = let q : room + suc (length s) ≡ room + 1 + length s = omega arith in rw q (tenth_told w room s h l e)
      go false e = absurd (clash v e)

  more-told : (w : ℕ) (s : List ℕ) → w < 10 → level_more minus w s ≡ Some v → Told minus (1 + length s) v
  unfolding level_more
  more-told w [] h e = point_told w 1 [] (omega arith) (digits-short w 1 (omega arith) (omega arith)) e
  more-told w (b ∷ s) h e = go (is_digit b) refl e
    where
      go : (t : Bool) → is_digit b ≡ t → cond t (level_point minus (w * 10 + (b - 48)) s) (level_point minus w (b ∷ s)) ≡ Some v → Told minus (1 + suc (length s)) v
      go true p e =
          let r = digit_range b p in
          let l = digits-short (w * 10 + (b - 48)) 2 (omega arith) (omega arith) in
          let q : 1 + suc (length s) ≡ 2 + length s = omega arith in
          rw q (point_told (w * 10 + (b - 48)) 2 s (omega arith) l e)
      go false p e = point_told w 1 (b ∷ s) (omega arith) (digits-short w 1 (omega arith) (omega arith)) e

  whole-told : (s : List ℕ) → level_whole minus s ≡ Some v → Told minus (length s) v
  unfolding level_whole
  whole-told [] e = absurd (clash v e)
  whole-told (b ∷ s) e = go (is_digit b) refl e
    where
      go : (t : Bool) → is_digit b ≡ t → cond t (level_more minus (b - 48) s) None ≡ Some v → Told minus (suc (length s)) v
      go true p e =
          let r = digit_range b p in
          let q : suc (length s) ≡ 1 + length s = omega arith in
          rw q (more-told (b - 48) s (omega arith) e)
      go false p e = absurd (clash v e)

-- s tells v, with a sign or without
pub record Said (s : List ℕ) (v : ℤ) : Type 0 where
  pub minus : Bool
  pub room : ℕ
  pub told : Told minus room v
  pub signed-room : cond minus 1 0 + room ≤ length s

pub level-said : (s : List ℕ) (v : ℤ) → read_level s ≡ Some v → Said s v
unfolding read_level
level-said [] v e = absurd (clash v e)
level-said (b ∷ s) v e = go (eqb b 45) e
  where
    go : (t : Bool) → cond t (level_whole true s) (level_whole false (b ∷ s)) ≡ Some v → Said (b ∷ s) v
    go true e = record { minus = true; room = length s; told = whole-told true v s e; signed-room = omega arith }
    go false e = record { minus = false; room = suc (length s); told = whole-told false v (b ∷ s) e; signed-room = omega arith }
