-- Laws of number texts: how short one can be, how large a number one says, and that a number's digits say it.
use Rattle.std.specs.Prelude.{◌≡◌, refl, Bool, true, false, cond, ◌&&◌, List, ℕ, ◌^◌, ◌≤◌, ◌<◌, leb, length, Some, None}
use Rattle.std.proofs.Math.Nat.{pow-le-pow_right}
use Rattle.std.proofs.Common.{arith, le-leb, leb-true}
use Rattle.text.specs.Digits.{all_digits, number_of, digits}
use Rattle.text.specs.Digits.Laws.{digits-are_digits, some_digits}
use Rattle.text.specs.Digits.Value.{digits-say, number_bound, digits-short, digits-shortest}
use Rattle.text.specs.Number.{number_form, read_number}
use Rattle.text.specs.Every.Laws.{both}

-- s is one to `width` digits that say n
pub record NumberText (width : ℕ) (s : List ℕ) (n : ℕ) : Type 0 where
  pub some : 1 ≤ length s
  pub fits : length s ≤ width
  pub all : all_digits s ≡ true
  pub says : number_of s ≡ n

pub number_form_lem : (width : ℕ) (s : List ℕ) → 1 ≤ length s → length s ≤ width → number_form width s ≡ all_digits s
unfolding number_form
number_form_lem width s p q = rw (le-leb 1 (length s) p, le-leb (length s) width q)

pub number_read : (width : ℕ) (s : List ℕ) (n : ℕ) → NumberText width s n → read_number width s ≡ Some n
unfolding read_number
number_read width s n h = rw (number_form_lem width s h.some h.fits, h.all, h.says)

pub number-told : (width : ℕ) (s : List ℕ) (n : ℕ) → read_number width s ≡ Some n → NumberText width s n
unfolding read_number number_form
number-told width s n h = go (number_form width s) refl h
  where
    go : (t : Bool) → number_form width s ≡ t → cond t (Some (number_of s)) None ≡ Some n → NumberText width s n
    go true e r =
        let outer = both (leb 1 (length s) && leb (length s) width) (all_digits s) e in
        let inner = both (leb 1 (length s)) (leb (length s) width) outer.0 in
        record {
          some = leb-true 1 (length s) inner.0;
          fits = leb-true (length s) width inner.1;
          all = outer.1;
          says = cc;
        }
    go false e r = absurd (let z : ◌≡◌ {A = ℕ} 0 1 = cc in omega arith)

-- no text of a number is shorter than its digits
pub number-shortest : (width : ℕ) (s : List ℕ) (n : ℕ) → read_number width s ≡ Some n → length (digits n) ≤ length s
number-shortest width s n h =
    let t = number-told width s n h in
    digits-shortest n s t.some t.all t.says

pub number-below : (width : ℕ) (s : List ℕ) (n : ℕ) → read_number width s ≡ Some n → n < 10 ^ width
number-below width s n h =
    let t = number-told width s n h in
    let b : n < 10 ^ length s = rw t.says at (number_bound s t.all) in
    let w : 10 ^ length s ≤ 10 ^ width = pow-le-pow_right (omega arith) t.fits in
    omega arith

-- a number that `width` digits can say is read back from its digits
pub number-back : (width n : ℕ) → 1 ≤ width → n < 10 ^ width → read_number width (digits n) ≡ Some n
number-back width n o h =
    number_read width (digits n) n
    (record { some = some_digits n; fits = digits-short n width o h; all = digits-are_digits n; says = digits-say n })
