-- Laws of hex digits, a fixed count of them: how long they are, that they say their number, and that no other digits of that count do.
use Rattle.std.specs.Prelude.{◌≡◌, refl, true, List, [], ◌∷◌, ◌++◌, ℕ, zero, suc, ◌+◌, ◌-◌, ◌*◌, ◌/◌, ◌%◌, ◌^◌, ◌<◌, length, get_or}
use Rattle.std.proofs.Common.{sym, ◌∙◌, ap, add-zero, pow-suc, mul_comm, arith, length-append, pow-add}
use Rattle.std.proofs.Math.Nat.{div-div-eq-div-mul}
use Rattle.text.specs.Every.{every}
use Rattle.text.specs.Every.Laws.{every-nil, every_more, every-both, every_append}
use Rattle.text.specs.Hex.{is_hex_digit, hex_value, hex_digit, hex_digits, hex_on}
use Rattle.text.specs.Hex.Laws.{value_small, digit_hex, digit_says, value_digit}

pub hex_length : (count n : ℕ) → length (hex_digits count n) ≡ count
unfolding hex_digits
hex_length zero n = refl
hex_length (suc count) n = let e = hex_length count (n / 16) in simp length-append (omega arith)

pub hex_are_hex : (count n : ℕ) → every is_hex_digit (hex_digits count n) ≡ true
unfolding hex_digits
hex_are_hex zero n = every-nil is_hex_digit
hex_are_hex (suc count) n =
    every_append is_hex_digit (hex_digits count (n / 16)) (hex_digit (n % 16) ∷ []) (hex_are_hex count (n / 16))
    (every_more is_hex_digit (hex_digit (n % 16)) [] (digit_hex (n % 16) (omega arith)) (every-nil is_hex_digit))

-- ---- the digits say their number

hex_on-append : (a : ℕ) (s t : List ℕ) → hex_on a (s ++ t) ≡ hex_on (hex_on a s) t
unfolding hex_on
hex_on-append a [] t = refl
hex_on-append a (b ∷ s) t = hex_on-append (a * 16 + hex_value b) s t

hex_on-none : (a : ℕ) → hex_on a [] ≡ a
unfolding hex_on
hex_on-none a = refl

hex_on-one : (a b : ℕ) → hex_on a (b ∷ []) ≡ a * 16 + hex_value b
unfolding hex_on
hex_on-one a b = refl

pub hex_say : (count n : ℕ) → n < 16 ^ count → hex_on 0 (hex_digits count n) ≡ n
unfolding hex_digits
hex_say zero n h = let e : 0 ≡ n = omega arith in hex_on-none 0 ∙ e
hex_say (suc count) n h =
    let l : n / 16 < 16 ^ count = let k : n < 16 ^ count * 16 = rw (pow-suc 16 count) at h in omega arith in
    rw (
      hex_on-append 0 (hex_digits count (n / 16)) (hex_digit (n % 16) ∷ []),
      hex_say count (n / 16) l,
      hex_on-one (n / 16) (hex_digit (n % 16)),
      digit_says (n % 16) (omega arith),
    ) (omega arith)

-- ---- no other digits say it

-- digits behind a number below 16 ^ j say one below 16 ^ (j + their count)
pub hex_on-bound : (s : List ℕ) (a j : ℕ) → every is_hex_digit s ≡ true → a < 16 ^ j → hex_on a s < 16 ^ (j + length s)
unfolding hex_on
hex_on-bound [] a j h l = rw (add-zero j) l
hex_on-bound (b ∷ s) a j h l =
    let d = every-both is_hex_digit b s h in
    let r = value_small b d.0 in
    let m : a * 16 + hex_value b < 16 ^ suc j = rw (pow-suc 16 j) (omega arith) in
    let e : j + suc (length s) ≡ suc j + length s = omega arith in
    rw e (hex_on-bound s (a * 16 + hex_value b) (suc j) d.1 m)

-- what stands before the digits
front : (a : ℕ) (s : List ℕ) → every is_hex_digit s ≡ true → hex_on a s / 16 ^ length s ≡ a
unfolding hex_on
front a [] h = omega arith
front a (b ∷ s) h =
    let d = every-both is_hex_digit b s h in
    let r = value_small b d.0 in
    let x = hex_on (a * 16 + hex_value b) s in
    let ih : x / 16 ^ length s ≡ a * 16 + hex_value b = front (a * 16 + hex_value b) s d.1 in
    let e : x / 16 ^ length s / 16 ≡ x / 16 ^ suc (length s) = div-div-eq-div-mul x (16 ^ length s) 16 ∙ ap (λ p. x / p) (sym (pow-suc 16 (length s))) in
    sym e ∙ rw ih (omega arith)

-- the first digit, and those behind it
pub hex_first : (count n : ℕ) → hex_digits (suc count) n ≡ hex_digit (n / 16 ^ count % 16) ∷ hex_digits count n
unfolding hex_digits
hex_first zero n = let e : n % 16 ≡ n / 1 % 16 = omega arith in ap (λ d. hex_digit d ∷ []) e
hex_first (suc count) n =
    let e : n / 16 / 16 ^ count ≡ n / 16 ^ suc count = div-div-eq-div-mul n 16 (16 ^ count) ∙ ap (λ p. n / p) (mul_comm 16 (16 ^ count) ∙ sym (pow-suc 16 count)) in
    rw (hex_first count (n / 16), e)

-- digits are the digits of the number that they say
pub hex_only : (a : ℕ) (s : List ℕ) → every is_hex_digit s ≡ true → hex_digits (length s) (hex_on a s) ≡ s
unfolding hex_digits hex_on
hex_only a [] h = refl
hex_only a (b ∷ s) h =
    let d = every-both is_hex_digit b s h in
    let r = value_small b d.0 in
    let c = a * 16 + hex_value b in
    let m : c % 16 ≡ hex_value b = omega arith in
    hex_first (length s) (hex_on c s) ∙ rw (front c s d.1, m, value_digit b d.0, hex_only c s d.1)

-- ---- the digit at a place

sixteens : (k : ℕ) → 16 ^ k ≡ 2 ^ (4 * k)
sixteens zero = refl
sixteens (suc k) =
    let e : 4 * suc k ≡ 4 * k + 4 = omega arith in
    let f : 2 ^ (4 * k + 4) ≡ 2 ^ (4 * k) * 16 = pow-add 2 (4 * k) 4 in
    rw (e, f, pow-suc 16 k, sixteens k)

place_of : (count n i : ℕ) → i < count → get_or (hex_digits count n) i 0 ≡ hex_digit (n / 16 ^ (count - 1 - i) % 16)
place_of zero n i h = absurd (omega arith)
place_of (suc count) n zero h =
    let e : suc count - 1 - 0 ≡ count = omega arith in
    rw (hex_first count n, e)
place_of (suc count) n (suc i) h =
    let e : suc count - 1 - suc i ≡ count - 1 - i = omega arith in
    rw (hex_first count n, e) (place_of count n i (omega arith))

pub hex_at : (count n i : ℕ) → i < count → get_or (hex_digits count n) i 0 ≡ hex_digit (n / 2 ^ (4 * (count - 1 - i)) % 16)
hex_at count n i h = rw (← sixteens (count - 1 - i)) (place_of count n i h)
