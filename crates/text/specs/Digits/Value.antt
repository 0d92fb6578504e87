-- Laws of what digits say: a number's digits say it, within a bound that their count gives, and no fewer digits say it.
use Rattle.std.specs.Prelude.{◌≡◌, refl, true, List, [], ◌∷◌, ◌++◌, ℕ, zero, suc, ◌+◌, ◌-◌, ◌*◌, ◌/◌, ◌%◌, ◌^◌, ◌≤◌, ◌<◌, length}
use Rattle.std.proofs.Common.{zero-add, add-zero, pow-suc, arith, length-append}
use Rattle.text.specs.Digits.{all_digits, read_on, number_of, digits}
use Rattle.text.specs.Digits.Laws.{by_digits, digit_and_rest, digit_range}

pub read_on-append : (a : ℕ) (s t : List ℕ) → read_on a (s ++ t) ≡ read_on (read_on a s) t
unfolding read_on
read_on-append a [] t = refl
read_on-append a (b ∷ s) t = read_on-append (a * 10 + (b - 48)) s t

read_one : (a b : ℕ) → read_on a (b ∷ []) ≡ a * 10 + (b - 48)
unfolding read_on
read_one a b = refl

read_more : (n : ℕ) (s : List ℕ) → read_on 0 s ≡ n / 10 → read_on 0 (s ++ ((48 + n % 10) ∷ [])) ≡ n
read_more n s e =
    rw (read_on-append 0 s ((48 + n % 10) ∷ []), read_one (read_on 0 s) (48 + n % 10), e) (omega arith)

pub digits-say : (n : ℕ) → number_of (digits n) ≡ n
unfolding number_of
digits-say =
    by_digits (λ n s. read_on 0 s ≡ n) (λ n h. rw (read_one 0 (48 + n)) (omega arith))
    (λ n h p. read_more n (digits (n / 10)) p)

-- digits behind a number below 10 ^ j say one below 10 ^ (j + their count)
read_on-bound : (s : List ℕ) (a j : ℕ) → all_digits s ≡ true → a < 10 ^ j → read_on a s < 10 ^ (j + length s)
unfolding read_on
read_on-bound [] a j h l = rw (add-zero j) l
read_on-bound (b ∷ s) a j h l =
    let d = digit_and_rest b s h in
    let r = digit_range b d.0 in
    let m : a * 10 + (b - 48) < 10 ^ suc j = rw (pow-suc 10 j) (omega arith) in
    let e : j + suc (length s) ≡ suc j + length s = omega arith in
    rw e (read_on-bound s (a * 10 + (b - 48)) (suc j) d.1 m)

pub number_bound : (s : List ℕ) → all_digits s ≡ true → number_of s < 10 ^ length s
unfolding number_of
number_bound s h = rw (zero-add (length s)) at (read_on-bound s 0 0 h (omega arith))

more-short : (n : ℕ) (s : List ℕ) → 10 ≤ n → ((k : ℕ) → 1 ≤ k → n / 10 < 10 ^ k → length s ≤ k)
    → (k : ℕ) → 1 ≤ k → n < 10 ^ k → length (s ++ ((48 + n % 10) ∷ [])) ≤ k
more-short n s h p zero o l = absurd (omega arith)
more-short n s h p (suc zero) o l = absurd (omega arith)
more-short n s h p (suc (suc k)) o l =
    let e : n / 10 < 10 ^ suc k = let f : n < 10 ^ suc k * 10 = rw (pow-suc 10 (suc k)) at l in omega arith in
    let q = p (suc k) (omega arith) e in
    simp length-append (omega arith)

-- a number below 10 ^ k has at most k digits
pub digits-short : (n k : ℕ) → 1 ≤ k → n < 10 ^ k → length (digits n) ≤ k
digits-short =
    by_digits (λ n s. (k : ℕ) → 1 ≤ k → n < 10 ^ k → length s ≤ k) (λ n h k o l. o)
    (λ n h p. more-short n (digits (n / 10)) h p)

-- no digits that say n are fewer than those of n
pub digits-shortest : (n : ℕ) (s : List ℕ) → 1 ≤ length s → all_digits s ≡ true → number_of s ≡ n → length (digits n) ≤ length s
digits-shortest n s o h e = digits-short n (length s) o (rw e at (number_bound s h))
