-- Laws of the digits of a number: one digit or one more, that each is a digit, and that there is one at least.
use Rattle.std.specs.Prelude.{◌≡◌, Bool, true, false, List, [], ◌∷◌, ◌++◌, ℕ, zero, suc, ◌+◌, ◌/◌, ◌%◌, ◌≤◌, ◌<◌, leb, ltb, length}
use Rattle.std.proofs.Common.{sym, ◌∙◌, mod-eq_of_lt, arith, lt-ltb, le-ltb, le-leb, leb-true, length-append}
use Rattle.std.proofs.Math.Decide.{dec_lt}
use Rattle.std.proofs.lemmas.Bool.{lt-leb}
use Rattle.text.specs.Digits.{is_digit, all_digits, digits_within, digits}
use Rattle.text.specs.Every.Laws.{both, every_append, every-both}
use Rattle.text.specs.Every.{every}

-- ---- one digit, and one more

within-one : (fuel n : ℕ) → n < 10 → digits_within fuel (ltb n 10) n ≡ (48 + n) ∷ []
unfolding digits_within
within-one zero n h = rw (mod-eq_of_lt h)
within-one (suc fuel) n h = rw (lt-ltb n 10 h, mod-eq_of_lt h)

within_more : (fuel n : ℕ) → 10 ≤ n
    → digits_within (suc fuel) (ltb n 10) n ≡ digits_within fuel (ltb (n / 10) 10) (n / 10) ++ ((48 + n % 10) ∷ [])
unfolding digits_within
within_more fuel n h = rw (le-ltb n 10 h)

-- fuel that suffices is as good as any other
same-fuel : (f g n : ℕ) → n ≤ f → n ≤ g → digits_within f (ltb n 10) n ≡ digits_within g (ltb n 10) n
same-fuel zero g n p q = within-one zero n (omega arith) ∙ sym (within-one g n (omega arith))
same-fuel (suc f) zero n p q = within-one (suc f) n (omega arith) ∙ sym (within-one zero n (omega arith))
same-fuel (suc f) (suc g) n p q = go (dec_lt n 10) (same-fuel f g (n / 10) (omega arith) (omega arith))
  where
    go : Dec (n < 10) → digits_within f (ltb (n / 10) 10) (n / 10) ≡ digits_within g (ltb (n / 10) 10) (n / 10)
        → digits_within (suc f) (ltb n 10) n ≡ digits_within (suc g) (ltb n 10) n
    go (yes l) e = within-one (suc f) n l ∙ sym (within-one (suc g) n l)
    go (no m) e = rw (within_more f n (omega arith), within_more g n (omega arith), e)

pub one_digit : (n : ℕ) → n < 10 → digits n ≡ (48 + n) ∷ []
unfolding digits
one_digit n h = within-one n n h

pub more-digits : (n : ℕ) → 10 ≤ n → digits n ≡ digits (n / 10) ++ ((48 + n % 10) ∷ [])
unfolding digits
more-digits zero h = absurd (omega arith)
more-digits (suc n) h = rw (within_more n (suc n) h, same-fuel n (suc n / 10) (suc n / 10) (omega arith) (omega arith))

pub more-length : (n : ℕ) → 10 ≤ n → length (digits n) ≡ length (digits (n / 10)) + 1
more-length n h = rw (more-digits n h) (length-append (digits (n / 10)) ((48 + n % 10) ∷ []))

-- what holds of one digit, and of one more digit where it held before, holds of a number's digits
module _ (P : ℕ → List ℕ → Type 0) (one : (n : ℕ) → n < 10 → P n ((48 + n) ∷ []))
    (more : (n : ℕ) → 10 ≤ n → P (n / 10) (digits (n / 10)) → P n (digits (n / 10) ++ ((48 + n % 10) ∷ []))) where
  by_fuel : (fuel n : ℕ) → n ≤ fuel → P n (digits n)
  by_fuel zero n h = rw (one_digit n (omega arith)) (one n (omega arith))
  by_fuel (suc fuel) n h = go (dec_lt n 10) (by_fuel fuel (n / 10) (omega arith))
    where
      go : Dec (n < 10) → P (n / 10) (digits (n / 10)) → P n (digits n)
      go (yes l) p = rw (one_digit n l) (one n l)
      go (no m) p = rw (more-digits n (omega arith)) (more n (omega arith) p)

  pub by_digits : (n : ℕ) → P n (digits n)
  by_digits n = by_fuel n n (omega arith)

-- ---- digits as bytes

pub is_digit_lem : (b : ℕ) → 48 ≤ b → b ≤ 57 → is_digit b ≡ true
unfolding is_digit
is_digit_lem b p q = rw (le-leb 48 b p, le-leb b 57 q)

pub digit_range : (b : ℕ) → is_digit b ≡ true → (48 ≤ b) × (b ≤ 57)
unfolding is_digit
digit_range b h =
    let t = both (leb 48 b) (leb b 57) h in
    (leb-true 48 b t.0, leb-true b 57 t.1)

pub digit_and_rest : (b : ℕ) (s : List ℕ) → all_digits (b ∷ s) ≡ true → (is_digit b ≡ true) × (all_digits s ≡ true)
unfolding all_digits
digit_and_rest b s h = every-both is_digit b s h

pub all_digits-append : (s t : List ℕ) → all_digits s ≡ true → all_digits t ≡ true → all_digits (s ++ t) ≡ true
unfolding all_digits
all_digits-append s t p q = every_append is_digit s t p q

digit_alone : (b : ℕ) → 48 ≤ b → b ≤ 57 → all_digits (b ∷ []) ≡ true
unfolding all_digits every
digit_alone b p q = rw (is_digit_lem b p q)

pub digits-are_digits : (n : ℕ) → all_digits (digits n) ≡ true
digits-are_digits =
    by_digits (λ n s. all_digits s ≡ true) (λ n h. digit_alone (48 + n) (omega arith) (omega arith))
    (λ n h p. all_digits-append (digits (n / 10)) ((48 + n % 10) ∷ []) p (digit_alone (48 + n % 10) (omega arith) (omega arith)))

pub some_digits : (n : ℕ) → 1 ≤ length (digits n)
some_digits =
    by_digits (λ n s. 1 ≤ length s) (λ n h. omega arith)
    (λ n h p. simp length-append (omega arith))

-- ---- a digit as the code tests and takes it

pub low_byte : (b : ℕ) → b < 48 → false ≡ is_digit b
unfolding is_digit
low_byte b h = rw (lt-leb 48 b h)

pub high_test : (b : ℕ) → 48 ≤ b → leb b 57 ≡ is_digit b
unfolding is_digit
high_test b h = rw (le-leb 48 b h)

pub digit_low : (b : ℕ) → is_digit b ≡ true → 48 ≤ b
digit_low b h = (digit_range b h).0

pub digit_high : (b : ℕ) → is_digit b ≡ true → b ≤ 57
digit_high b h = (digit_range b h).1

-- what a callee said of a flag, and which way the flag went
pub flag_told : (t u v : Bool) → t ≡ u → t ≡ v → u ≡ v
flag_told t u v p q = sym p ∙ q

pub ruleset digit_bytes = (low_byte, high_test, digit_low, digit_high, flag_told)
