-- How a number is read: the digits passed so far, and what each way out of the loop says.
use Rattle.std.specs.Prelude.{◌≡◌, refl, Bool, true, false, List, ◌∷◌, ℕ, ◌+◌, ◌-◌, ◌*◌, ◌^◌, ◌≤◌, ◌<◌, leb, length, Some, None}
use Rattle.std.proofs.Common.{sym, ◌∙◌, add-one, arith, drop_of_length-le, Fits}
use Rattle.std.proofs.Math.Bool.{and-false}
use Rattle.std.proofs.Math.Nat.{pow-suc, pow-le-pow_right}
use Rattle.std.proofs.lemmas.Bool.{lt-leb}
use Rattle.std.proofs.Math.ListN.{get_or, drop}
use Rattle.std.proofs.Math.Seq.{drop-cons}
use Rattle.std.specs.Int.{w64}
use Rattle.text.specs.Digits.{is_digit, all_digits, read_on, number_of}
use Rattle.text.specs.Digits.Laws.{digit_range}
use Rattle.text.specs.Number.{number_form, read_number}
use Rattle.text.specs.Number.Laws.{number_form_lem, number_read}
use Rattle.text.specs.Every.{every}

-- i digits of s are passed, and say n
pub record Passed (width : ℕ) (s : List ℕ) (n i : ℕ) : Type 0 where
  pub some : 1 ≤ length s
  pub fits : length s ≤ width
  pub within : i ≤ length s
  pub bound : n < 10 ^ i
  pub digits-left : all_digits s ≡ all_digits (drop i s)
  pub value_left : number_of s ≡ read_on n (drop i s)

pub wrong_empty : (width : ℕ) (s : List ℕ) → length s ≡ 0 → None ≡ read_number width s
unfolding read_number number_form
wrong_empty width s h = rw h

pub wrong_long : (width : ℕ) (s : List ℕ) → (length s ≡ 0 → ⊥) → width < length s → None ≡ read_number width s
unfolding read_number number_form
wrong_long width s o h = rw (lt-leb (length s) width h, and-false (leb 1 (length s)))

pub passed_start : (width : ℕ) (s : List ℕ) → (length s ≡ 0 → ⊥) → length s ≤ width → Passed width s 0 0
unfolding number_of
passed_start width s o h =
    record { some = omega arith; fits = h; within = omega arith; bound = omega arith; digits-left = refl; value_left = refl }

module _ (width : ℕ) (s : List ℕ) (n i : ℕ) (t : Bool) (p : Passed width s n i) (l : i < length s) (e : t ≡ is_digit (get_or s i 0)) where
  pub passed_next : (d : ℕ) → t ≡ true → d ≡ get_or s i 0 - 48 → Passed width s (n * 10 + d) (i + 1)
  unfolding all_digits every read_on
  passed_next d y q =
      let r = digit_range (get_or s i 0) (sym e ∙ y) in
      let f : drop i s ≡ get_or s i 0 ∷ drop (i + 1) s = rw (add-one, drop-cons s i 0) in
      record {
        some = p.some;
        fits = p.fits;
        within = omega arith;
        bound = rw (add-one i, pow-suc 10 i) (omega (arith, p.bound));
        digits-left = p.digits-left ∙ rw (f, ← e, y);
        value_left = p.value_left ∙ rw (f, q);
      }

  pub wrong_byte : t ≡ false → None ≡ read_number width s
  unfolding read_number all_digits every
  wrong_byte y =
      let f : drop i s ≡ get_or s i 0 ∷ drop (i + 1) s = rw (add-one, drop-cons s i 0) in
      rw (number_form_lem width s p.some p.fits, p.digits-left, f, ← e, y)

pub all_passed : (width : ℕ) (s : List ℕ) (n i : ℕ) → Passed width s n i → length s ≤ i → Some n ≡ read_number width s
unfolding all_digits every read_on
all_passed width s n i p l =
    sym (number_read width s n
    (record {
      some = p.some;
      fits = p.fits;
      all = p.digits-left ∙ rw (drop_of_length-le s l);
      says = p.value_left ∙ rw (drop_of_length-le s l);
    }))

-- the number stays below 10 ^ 19
module _ (width : ℕ) (s : List ℕ) (n i : ℕ) (p : Passed width s n i) (l : i < length s) (w : width ≤ 19) where
  room : n < 10 ^ 18
  room =
      let k : i ≤ 18 = omega (arith, p.fits) in
      let m : 10 ^ i ≤ 10 ^ 18 = pow-le-pow_right (omega arith) k in
      omega (arith, p.bound)

  pub times_ten_fits : Fits w64 (n * 10)
  times_ten_fits = let r = room in record { fits = omega arith }

  pub next_fits : (t : Bool) (d : ℕ) → t ≡ is_digit (get_or s i 0) → t ≡ true → d ≡ get_or s i 0 - 48 → Fits w64 (n * 10 + d)
  next_fits t d e y q =
      let r = room in
      let g = digit_range (get_or s i 0) (sym e ∙ y) in
      record { fits = omega arith }

pub ruleset passing = (wrong_empty, wrong_long, passed_start, passed_next, wrong_byte, all_passed, times_ten_fits, next_fits)
