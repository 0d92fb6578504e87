-- How a level text is read to its end: what the loop keeps, and what the last state says.
use Rattle.std.specs.Prelude.{◌≡◌, refl, Bool, List, [], ◌∷◌, ℕ, ◌+◌, ◌*◌, ◌≤◌, ◌<◌, ℤ, length, get_or, drop, Option, Some, None}
use Rattle.std.proofs.Math.Path.{sym}
use Rattle.std.proofs.Common.{◌∙◌, add-one, arith, drop_of_length-le, drop-cons}
use Rattle.text.specs.Level.{signed, level_tenth, level_point, level_more, level_whole, read_level}
use Rattle.text.specs.Level.From.{level_end, level_from, level_after, Small, SmallAfter, ReadOn, on}
use Rattle.text.specs.Level.Reading.{small_digit, small_digits, small_tenth, thousand_fits}
use Rattle.text.specs.declared.level.Reading.{Reading}
use Rattle.text.specs.declared.level.Reading.TheVariants as reading

-- ---- the end in any state

module _ (r : Reading) where
  pub end_start : r ≡ reading.Start → None ≡ level_from r []
  unfolding level_from read_level
  end_start e = rw e

  pub end_sign : r ≡ reading.Sign → None ≡ level_from r []
  unfolding level_from level_whole
  end_sign e = rw e

  pub end_point : (minus : Bool) (n : ℕ) → r ≡ reading.Point minus n → None ≡ level_from r []
  unfolding level_from level_tenth
  end_point minus n e = rw e

  module _ (minus : Bool) (n : ℕ) (v : ℤ) where
    pub end_digit : r ≡ reading.Digit minus n → v ≡ signed minus (n * 10) → Some v ≡ level_from r []
    unfolding level_from level_more level_point
    end_digit e q = rw (e, q)

    pub end_digits : r ≡ reading.Digits minus n → v ≡ signed minus (n * 10) → Some v ≡ level_from r []
    unfolding level_from level_point
    end_digits e q = rw (e, q)

    pub end_tenth : r ≡ reading.Tenth minus n → v ≡ signed minus n → Some v ≡ level_from r []
    unfolding level_from level_end
    end_tenth e q = rw (e, q)

-- the tenths of a whole part
module _ (r : Reading) (m : Small r) (minus : Bool) (n : ℕ) where
  pub digit_tenths : r ≡ reading.Digit minus n → n * 10 < 1000
  digit_tenths e = omega (arith, small_digit r m minus n e)

  pub digits-tenths : r ≡ reading.Digits minus n → n * 10 < 1000
  digits-tenths e = omega (arith, small_digits r m minus n e)

pub ruleset end_rules = (thousand_fits, digit_tenths, digits-tenths, small_tenth, end_start, end_sign, end_digit, end_digits, end_point, end_tenth)

-- ---- a byte more

small_after : {from : List ℕ → Option ℤ} {b : ℕ} {r : Option Reading} → ReadOn from b r → SmallAfter r
small_after (on h f) = h

told_after : {from : List ℕ → Option ℤ} {b : ℕ} {r : Option Reading} → ReadOn from b r → (s : List ℕ) → from (b ∷ s) ≡ level_after r s
told_after (on h f) = f

-- ---- the loop: i bytes of s are read as far as r

pub record Passed (s : List ℕ) (r : Reading) (i : ℕ) : Type 0 where
  pub within : i ≤ length s
  pub small : Small r
  pub left : read_level s ≡ level_from r (drop i s)

pub passed_start : (s : List ℕ) → Passed s reading.Start 0
unfolding level_from
passed_start s = record { within = omega arith; small = tt; left = refl }

module _ (s : List ℕ) (r : Reading) (i : ℕ) (p : Passed s r i) where
  pub passed_small : Small r
  passed_small = p.small

  pub all_passed : (v : Option ℤ) → length s ≤ i → v ≡ level_from r [] → v ≡ read_level s
  all_passed v l e = e ∙ sym (p.left ∙ rw (drop_of_length-le s l))

  module _ (l : i < length s) where
    read_left : (q : Option Reading) → ReadOn (level_from r) (get_or s i 0) q → read_level s ≡ level_after q (drop (i + 1) s)
    read_left q o =
        let c : drop i s ≡ get_or s i 0 ∷ drop (i + 1) s = rw (add-one, drop-cons s i 0) in
        p.left ∙ rw c (told_after o (drop (i + 1) s))

    pub passed_next : (n : Reading) → ReadOn (level_from r) (get_or s i 0) (Some n) → Passed s n (i + 1)
    unfolding level_after
    passed_next n o = record { within = omega arith; small = small_after o; left = read_left (Some n) o }

    pub passed_wrong : ReadOn (level_from r) (get_or s i 0) None → None ≡ read_level s
    unfolding level_after
    passed_wrong o = sym (read_left None o)

pub ruleset level_rules = (passed_start, passed_small, passed_next, passed_wrong, all_passed)
