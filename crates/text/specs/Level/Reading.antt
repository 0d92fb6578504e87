-- How a byte of a level text is read: a rule for each return of each state's function, and for the room that the numbers have.
use Rattle.std.specs.Prelude.{◌≡◌, Bool, true, false, ℕ, ◌+◌, ◌-◌, ◌*◌, ◌<◌, Option, Some, None}
use Rattle.std.proofs.Math.Path.{refl}
use Rattle.std.proofs.Common.{sym, ◌∙◌, arith, eq-eqb, ne_eqb, Fits}
use mathlib.Core.List.{List, [], ◌∷◌}
use Rattle.std.specs.Int.{w64}
use Rattle.text.specs.Digits.{is_digit}
use Rattle.text.specs.Digits.Laws.{digit_range, flag_told}
use Rattle.text.specs.Level.{level_tenth, level_point, level_more, level_whole, read_level}
use Rattle.text.specs.Level.From.{level_end, level_from, level_after, Small, ReadOn, on}
use Rattle.text.specs.declared.level.Reading.{Reading}
use Rattle.text.specs.declared.level.Reading.TheVariants as reading

-- ---- the numbers

-- one digit more is below ten times the limit
module _ (w b d : ℕ) (t : Bool) (e : t ≡ is_digit b) (y : t ≡ true) (q : d ≡ b - 48) where
  pub more-below_thousand : w < 100 → w * 10 + d < 1000
  more-below_thousand h = let r = digit_range b (sym e ∙ y) in omega arith

  pub more-below_hundred : w < 10 → w * 10 + d < 100
  more-below_hundred h = let r = digit_range b (sym e ∙ y) in omega arith

pub digit_below_ten : (b d : ℕ) (t : Bool) → t ≡ is_digit b → t ≡ true → d ≡ b - 48 → d < 10
digit_below_ten b d t e y q = let r = digit_range b (sym e ∙ y) in omega arith

pub thousand_fits : (n : ℕ) → n < 1000 → Fits w64 n
thousand_fits n h = record { fits = omega arith }

pub hundred_fits : (n : ℕ) → n < 100 → Fits w64 n
hundred_fits n h = record { fits = omega arith }

pub below_hundred : (n : ℕ) → n < 10 → n < 100
below_hundred n h = omega arith

-- ---- behind the point

module _ (minus : Bool) (w b : ℕ) (t : Bool) (e : t ≡ is_digit b) where
  pub tenth_read : (d : ℕ) → w < 100 → t ≡ true → d ≡ b - 48 → ReadOn (level_tenth minus w) b (Some (reading.Tenth minus (w * 10 + d)))
  unfolding level_tenth level_from level_after level_end
  tenth_read d h y q = on (more-below_thousand w b d t e y q h) go
    where
      go : (s : List ℕ) → level_tenth minus w (b ∷ s) ≡ level_after (Some (reading.Tenth minus (w * 10 + d))) s
      go [] = rw (← e, y, q)
      go (c ∷ s) = refl

  pub tenth_wrong : t ≡ false → ReadOn (level_tenth minus w) b None
  unfolding level_tenth level_from level_after
  tenth_wrong y = on tt go
    where
      go : (s : List ℕ) → level_tenth minus w (b ∷ s) ≡ level_after None s
      go [] = rw (← e, y)
      go (c ∷ s) = refl

pub ruleset tenth_rules = (flag_told, thousand_fits, more-below_thousand, tenth_read, tenth_wrong)

-- ---- behind the second digit

pub point_read : (minus : Bool) (w b : ℕ) → w < 100 → b ≡ 46 → ReadOn (level_point minus w) b (Some (reading.Point minus w))
unfolding level_point level_from level_after
point_read minus w b h e = on h (λ s. rw (eq-eqb b 46 e))

pub point_wrong : (minus : Bool) (w b : ℕ) → (b ≡ 46 → ⊥) → ReadOn (level_point minus w) b None
unfolding level_point level_from level_after
point_wrong minus w b e = on tt (λ s. rw (ne_eqb b 46 e))

pub ruleset point_rules = (point_read, point_wrong)

-- ---- behind the first digit

module _ (minus : Bool) (w b : ℕ) (t : Bool) (e : t ≡ is_digit b) where
  pub second_read : (d : ℕ) → w < 10 → t ≡ true → d ≡ b - 48 → ReadOn (level_more minus w) b (Some (reading.Digits minus (w * 10 + d)))
  unfolding level_more level_from level_after
  second_read d h y q = on (more-below_hundred w b d t e y q h) (λ s. rw (← e, y, q))

  pub second_point : (r : Option Reading) → t ≡ false → ReadOn (level_point minus w) b r → ReadOn (level_more minus w) b r
  unfolding level_more
  second_point r y (on h f) = on h (λ s. rw (← e, y) (f s))

pub ruleset second_rules = (flag_told, hundred_fits, more-below_hundred, below_hundred, second_read, second_point)

-- ---- behind the sign

module _ (minus : Bool) (b : ℕ) (t : Bool) (e : t ≡ is_digit b) where
  pub first_read : (d : ℕ) → t ≡ true → d ≡ b - 48 → ReadOn (level_whole minus) b (Some (reading.Digit minus d))
  unfolding level_whole level_from level_after
  first_read d y q = on (digit_below_ten b d t e y q) (λ s. rw (← e, y, q))

  pub first-wrong : t ≡ false → ReadOn (level_whole minus) b None
  unfolding level_whole level_from level_after
  first-wrong y = on tt (λ s. rw (← e, y))

pub ruleset first_rules = (flag_told, first_read, first-wrong)

-- ---- at the start

pub start-sign : (b : ℕ) → b ≡ 45 → ReadOn read_level b (Some reading.Sign)
unfolding read_level level_from level_after
start-sign b e = on tt (λ s. rw (eq-eqb b 45 e))

pub start_first : (b : ℕ) (r : Option Reading) → (b ≡ 45 → ⊥) → ReadOn (level_whole false) b r → ReadOn read_level b r
unfolding read_level
start_first b r e (on h f) = on h (λ s. rw (ne_eqb b 45 e) (f s))

pub ruleset start_rules = (start-sign, start_first)

-- ---- a byte in any state

module _ (r : Reading) (b : ℕ) (q : Option Reading) where
  pub byte_start : r ≡ reading.Start → ReadOn read_level b q → ReadOn (level_from r) b q
  unfolding level_from
  byte_start e (on h f) = on h (λ s. rw e (f s))

  pub byte_sign : r ≡ reading.Sign → ReadOn (level_whole true) b q → ReadOn (level_from r) b q
  unfolding level_from
  byte_sign e (on h f) = on h (λ s. rw e (f s))

  pub byte_digit : (minus : Bool) (w : ℕ) → r ≡ reading.Digit minus w → ReadOn (level_more minus w) b q → ReadOn (level_from r) b q
  unfolding level_from
  byte_digit minus w e (on h f) = on h (λ s. rw e (f s))

  pub byte_digits : (minus : Bool) (w : ℕ) → r ≡ reading.Digits minus w → ReadOn (level_point minus w) b q → ReadOn (level_from r) b q
  unfolding level_from
  byte_digits minus w e (on h f) = on h (λ s. rw e (f s))

  pub byte_point : (minus : Bool) (w : ℕ) → r ≡ reading.Point minus w → ReadOn (level_tenth minus w) b q → ReadOn (level_from r) b q
  unfolding level_from
  byte_point minus w e (on h f) = on h (λ s. rw e (f s))

pub byte_tenth : (r : Reading) (b : ℕ) (minus : Bool) (n : ℕ) → r ≡ reading.Tenth minus n → ReadOn (level_from r) b None
unfolding level_from level_after level_end
byte_tenth r b minus n e = on tt (λ s. rw e)

-- the numbers of the states
module _ (r : Reading) (m : Small r) (minus : Bool) (n : ℕ) where
  pub small_digit : r ≡ reading.Digit minus n → n < 10
  small_digit e = rw e at m

  pub small_digits : r ≡ reading.Digits minus n → n < 100
  small_digits e = rw e at m

  pub small_point : r ≡ reading.Point minus n → n < 100
  small_point e = rw e at m

  pub small_tenth : r ≡ reading.Tenth minus n → n < 1000
  small_tenth e = rw e at m

pub ruleset byte_rules = (byte_start, byte_sign, byte_digit, byte_digits, byte_point, byte_tenth, small_digit, small_digits, small_point)
