-- Laws of parts: how long a part of a list is, as code hands it on, the first n elements or those from the place a to the place a + n; and a part of texts
-- that are joined.
use Rattle.std.specs.Prelude.{◌≡◌, refl, List, ◌++◌, ℕ, ◌+◌, ◌-◌, ◌≤◌, length, take, drop}
use Rattle.std.proofs.Common.{sym, arith, length-append, length-drop, length-take, drop_at, length-take-le, take_at}
use Rattle.std.proofs.Math.Seq.{take-length}
use Rattle.text.specs.Cut.{part}

module _ {A : Type 0} where
  -- a first part of n has n
  pub part-counts : (l : List A) (n : ℕ) → n ≤ length l → n ≡ length (take n l)
  part-counts l n h = sym (length-take-le n l h)

  -- where so many elements are left from its first place on
  pub part_left : (l : List A) (a n m : ℕ) → n ≡ m → n ≤ length l - a → length (take (a + n - a) (drop a l)) ≡ m
  part_left l a n m e h = omega (arith, length-take (a + n - a) (drop a l), length-drop a l)

  -- where it ends within the list
  pub part-within : (l : List A) (a n m : ℕ) → n ≡ m → a + m ≤ length l → length (take (a + n - a) (drop a l)) ≡ m
  part-within l a n m e h = part_left l a n m e (omega arith)

-- ---- the bytes from place a up to place e

-- the part as code hands it on
pub part-is : (s : List ℕ) (a e : ℕ) → part s a e ≡ take (e - a) (drop a s)
unfolding part
part-is s a e = refl

pub part_length : (s : List ℕ) (a e : ℕ) → e ≤ length s → length (part s a e) ≡ e - a
unfolding part
part_length s a e h = simp (length-take, length-drop) (omega arith)

-- of three texts joined, the second; of two, the last
pub part-middle : (x y z : List ℕ) (a e : ℕ) → length x ≡ a → a + length y ≡ e → part (x ++ (y ++ z)) a e ≡ y
unfolding part
part-middle x y z a e p q =
    let n : length y ≡ e - a = omega arith in
    rw (drop_at x (y ++ z) a p) (take_at y z (e - a) n)

pub part-last : (x y : List ℕ) (a e : ℕ) → length x ≡ a → length (x ++ y) ≡ e → part (x ++ y) a e ≡ y
unfolding part
part-last x y a e p q =
    let n : e - a ≡ length y = omega (arith, length-append x y) in
    rw (drop_at x y a p, n) (take-length y)
