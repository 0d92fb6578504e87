-- Laws of level texts: no text of a level is shorter than the one that is written, and what is written is read back.
use Rattle.std.specs.Prelude.{◌≡◌, refl, Bool, true, false, cond, List, [], ◌∷◌, ◌++◌, ℕ, zero, suc, ◌+◌, ◌-◌, ◌*◌, ◌/◌, ◌%◌, ◌≤◌, ◌<◌, ℤ, pos, negsuc, nat_abs, length, Some}
use Rattle.std.proofs.Common.{◌∙◌, ap, add-zero, arith, ne_eqb, length-append}
use Rattle.std.proofs.Math.Decide.{dec_lt}
use Rattle.text.specs.Digits.{is_digit, all_digits, digits}
use Rattle.text.specs.Digits.Laws.{one_digit, more-digits, is_digit_lem, digit_range, digit_and_rest, digits-are_digits, some_digits}
use Rattle.text.specs.Digits.Value.{digits-short}
use Rattle.text.specs.Level.{signed, level_tenth, level_point, level_more, level_whole, read_level, sign_text, tenth_text, short_tenth_text, whole_text, level_text}
use Rattle.text.specs.Level.Told.{Told, level-said, tenth_short}

-- ---- the lengths of the parts

pub sign_short : (v : ℤ) → length (sign_text v) ≤ 1
unfolding sign_text
sign_short (pos n) = omega arith
sign_short (negsuc n) = omega arith

whole_length : (v : ℤ) → length (whole_text v) ≡ length (sign_text v) + length (digits (nat_abs v / 10))
unfolding whole_text
whole_length v = length-append (sign_text v) (digits (nat_abs v / 10))

pub level-length : (v : ℤ)
    → length (level_text v) ≡ length (sign_text v) + length (digits (nat_abs v / 10)) + length (short_tenth_text (nat_abs v % 10))
unfolding level_text
level-length v = length-append (whole_text v) (short_tenth_text (nat_abs v % 10)) ∙ rw (whole_length v)

module _ (v : ℤ) (h : nat_abs v < 1000) where
  whole-digits : length (digits (nat_abs v / 10)) ≤ 2
  whole-digits = digits-short (nat_abs v / 10) 2 (omega arith) (omega arith)

  -- a level below a hundred dB is written in at most five bytes
  pub level-at_most_five : length (level_text v) ≤ 5
  level-at_most_five =
      let s = sign_short v in
      let d = whole-digits in
      let t = tenth_short (nat_abs v % 10) in
      rw (level-length v) (omega arith)

-- ---- what is read

size_of-signed : (minus : Bool) (n : ℕ) → nat_abs (signed minus n) ≡ n
unfolding signed
size_of-signed true zero = refl
size_of-signed true (suc n) = refl
size_of-signed false n = refl

sign_of_signed : (minus : Bool) (n : ℕ) → length (sign_text (signed minus n)) ≤ cond minus 1 0
unfolding signed sign_text
sign_of_signed true zero = omega arith
sign_of_signed true (suc n) = omega arith
sign_of_signed false n = omega arith

told-size : {minus : Bool} {room : ℕ} {v : ℤ} (t : Told minus room v) → nat_abs v ≡ t.whole * 10 + t.tenth
told-size {minus} t = ap nat_abs t.value ∙ size_of-signed minus (t.whole * 10 + t.tenth)

told-sign : {minus : Bool} {room : ℕ} {v : ℤ} → Told minus room v → length (sign_text v) ≤ cond minus 1 0
told-sign {minus} {v = v} t =
    let e = ap (λ (z : ℤ). length (sign_text z)) t.value in
    let l = sign_of_signed minus (t.whole * 10 + t.tenth) in
    omega arith

-- a level text says a level below a hundred dB
pub level-below : (s : List ℕ) (v : ℤ) → read_level s ≡ Some v → nat_abs v < 1000
level-below s v e =
    let t = (level-said s v e).told in
    let n = told-size t in
    omega (arith, t.below_hundred, t.below_ten)

-- no text of a level is shorter than the one that is written
pub level-shortest : (s : List ℕ) (v : ℤ) → read_level s ≡ Some v → length (level_text v) ≤ length s
level-shortest s v e =
    let a = level-said s v e in
    let t = a.told in
    let n = told-size t in
    let g = told-sign t in
    let w : nat_abs v / 10 ≡ t.whole = omega (arith, t.below_ten) in
    let d : nat_abs v % 10 ≡ t.tenth = omega (arith, t.below_ten) in
    rw (level-length v, w, d) (omega (arith, t.short, a.signed-room))

-- ---- what is written is read back

negative : ℤ → Bool
negative (pos n) = false
negative (negsuc n) = true

signed_back : (v : ℤ) → signed (negative v) (nat_abs v) ≡ v
unfolding signed negative
signed_back (pos n) = refl
signed_back (negsuc n) = refl

tenth_back : (minus : Bool) (w d : ℕ) → d < 10 → level_point minus w (tenth_text d) ≡ Some (signed minus (w * 10 + d))
unfolding level_point level_tenth tenth_text
tenth_back minus w d h =
    let e : 48 + d - 48 ≡ d = omega arith in
    rw (is_digit_lem (48 + d) (omega arith) (omega arith), e)

short_back : (minus : Bool) (w d : ℕ) → d < 10 → level_point minus w (short_tenth_text d) ≡ Some (signed minus (w * 10 + d))
unfolding level_point short_tenth_text
short_back minus w zero h = rw (add-zero (w * 10))
short_back minus w (suc d) h = tenth_back minus w (suc d) h

-- a text behind the whole part that does not begin with a digit
record Stops (t : List ℕ) : Type 0 where
  stops : (minus : Bool) (w : ℕ) → level_more minus w t ≡ level_point minus w t

point_stops : (d : ℕ) → Stops (tenth_text d)
unfolding level_more tenth_text is_digit
point_stops d = record { stops = λ minus w. refl }

short_stops : (d : ℕ) → Stops (short_tenth_text d)
unfolding level_more short_tenth_text
short_stops zero = record { stops = λ minus w. refl }
short_stops (suc d) = point_stops (suc d)

whole-digit : (minus : Bool) (d : ℕ) (t : List ℕ) → d < 10 → level_whole minus ((48 + d) ∷ t) ≡ level_more minus d t
unfolding level_whole
whole-digit minus d t h =
    let e : 48 + d - 48 ≡ d = omega arith in
    rw (is_digit_lem (48 + d) (omega arith) (omega arith), e)

more-digit : (minus : Bool) (w d : ℕ) (t : List ℕ) → d < 10 → level_more minus w ((48 + d) ∷ t) ≡ level_point minus (w * 10 + d) t
unfolding level_more
more-digit minus w d t h =
    let e : 48 + d - 48 ≡ d = omega arith in
    rw (is_digit_lem (48 + d) (omega arith) (omega arith), e)

whole_back : (minus : Bool) (w : ℕ) (t : List ℕ) → w < 100 → Stops t → level_whole minus (digits w ++ t) ≡ level_point minus w t
whole_back minus w t h p = go (dec_lt w 10)
  where
    go : Dec (w < 10) → level_whole minus (digits w ++ t) ≡ level_point minus w t
    go (yes l) = rw (one_digit w l) (whole-digit minus w t l ∙ p.stops minus w)
    go (no m) =
        let e : w / 10 * 10 + w % 10 ≡ w = omega arith in
        let b = whole-digit minus (w / 10) ((48 + w % 10) ∷ t) (omega arith) ∙ more-digit minus (w / 10) (w % 10) t (omega arith) in
        rw (more-digits w (omega arith), one_digit (w / 10) (omega arith)) (rw e at b)

no_sign : (s t : List ℕ) → all_digits s ≡ true → 1 ≤ length s → read_level (s ++ t) ≡ level_whole false (s ++ t)
unfolding read_level
no_sign [] t h l = absurd (omega arith)
no_sign (b ∷ s) t h l =
    let r = digit_range b (digit_and_rest b s h).0 in
    rw (ne_eqb b 45 (λ e. omega arith))

sign_back : (v : ℤ) (t : List ℕ) → read_level (whole_text v ++ t) ≡ level_whole (negative v) (digits (nat_abs v / 10) ++ t)
unfolding whole_text sign_text negative read_level
sign_back (pos n) t = no_sign (digits (n / 10)) t (digits-are_digits (n / 10)) (some_digits (n / 10))
sign_back (negsuc n) t = refl

pub level-back : (v : ℤ) → nat_abs v < 1000 → read_level (level_text v) ≡ Some v
unfolding level_text
level-back v h =
    let tenth = nat_abs v % 10 in
    let n : nat_abs v / 10 * 10 + nat_abs v % 10 ≡ nat_abs v = omega arith in
    sign_back v (short_tenth_text tenth)
    ∙ whole_back (negative v) (nat_abs v / 10) (short_tenth_text tenth) (omega arith) (short_stops tenth)
    ∙ short_back (negative v) (nat_abs v / 10) tenth (omega arith)
    ∙ ap Some (ap (signed (negative v)) n ∙ signed_back v)
