-- What a test of a whole list shows at each place; and laws of tests, as code leaves them.
use Rattle.std.specs.Prelude.{◌≡◌, Bool, true, false, not, ◌&&◌, length, get_or}
use Rattle.std.proofs.Math.Path.{refl}
use Rattle.std.proofs.Common.{sym, ◌∙◌, le_of_suc-le-suc, not-suc-le-zero, arith}
use mathlib.Core.List.{List, [], ◌∷◌, ◌++◌}
use Prim.Native.Nat.{ℕ, zero, suc, ◌<◌}
use Rattle.std.proofs.lemmas.Bool.{not-false}
use Rattle.text.specs.Every.{every, pairs}

pub never {ℓ} : {A : Type ℓ} → false ≡ true → A
never e = absurd (let z : ◌≡◌ {A = ℕ} 0 1 = cc in omega arith)

-- code asked for a test, and went on where it was not failed
pub test_held : (b s : Bool) → b ≡ s → not b ≡ false → s ≡ true
test_held b s e n = sym e ∙ not-false b n

pub both_left : (a b : Bool) → (a && b) ≡ true → a ≡ true
both_left true b e = refl
both_left false b e = e

pub both_right : (a b : Bool) → (a && b) ≡ true → b ≡ true
both_right true b e = e
both_right false b e = never e

pub both : (a b : Bool) → (a && b) ≡ true → (a ≡ true) × (b ≡ true)
both a b e = (both_left a b e, both_right a b e)

module _ {A : Type 0} where
  -- the test of a list, element by element
  pub every-nil : (test : A → Bool) → every test [] ≡ true
  unfolding every
  every-nil test = refl

  pub every-cons : (test : A → Bool) (a : A) (l : List A) → every test (a ∷ l) ≡ (test a && every test l)
  unfolding every
  every-cons test a l = refl

  pub every_more : (test : A → Bool) (a : A) (l : List A) → test a ≡ true → every test l ≡ true → every test (a ∷ l) ≡ true
  every_more test a l p q = rw (every-cons test a l, p) q

  pub every-both : (test : A → Bool) (a : A) (l : List A) → every test (a ∷ l) ≡ true → (test a ≡ true) × (every test l ≡ true)
  unfolding every
  every-both test a l e = both (test a) (every test l) e

  pub every_append : (test : A → Bool) (l m : List A) → every test l ≡ true → every test m ≡ true → every test (l ++ m) ≡ true
  unfolding every
  every_append test [] m p q = q
  every_append test (a ∷ l) m p q = let h = every-both test a l p in rw h.0 (every_append test l m h.1 q)

  -- what passes one test passes every test that follows from it
  pub every-weaker : (test other : A → Bool) → ((a : A) → test a ≡ true → other a ≡ true) → (l : List A) → every test l ≡ true → every other l ≡ true
  unfolding every
  every-weaker test other f [] e = refl
  every-weaker test other f (a ∷ l) e = let h = every-both test a l e in rw (f a h.0) (every-weaker test other f l h.1)

  -- what a test of the whole list shows of the element at a place
  pub every-at : (test : A → Bool) (l : List A) (d : A) → every test l ≡ true → (i : ℕ) → i < length l → test (get_or l i d) ≡ true
  unfolding every
  every-at test [] d e i h = absurd (not-suc-le-zero h)
  every-at test (a ∷ l) d e zero h = both_left (test a) (every test l) e
  every-at test (a ∷ l) d e (suc i) h = every-at test l d (both_right (test a) (every test l) e) i (le_of_suc-le-suc h)

  -- the test of a list's pairs, element by element
  pub pairs-nil : (test : A → A → Bool) → pairs test [] ≡ true
  unfolding pairs
  pairs-nil test = refl

  pub pairs-both : (test : A → A → Bool) (a : A) (l : List A) → pairs test (a ∷ l) ≡ true → (every (test a) l ≡ true) × (pairs test l ≡ true)
  unfolding pairs
  pairs-both test a l e = both (every (test a) l) (pairs test l) e

  pub pairs-more : (test : A → A → Bool) (a : A) (l : List A) → every (test a) l ≡ true → pairs test l ≡ true → pairs test (a ∷ l) ≡ true
  unfolding pairs
  pairs-more test a l p q = rw p q

  pub pairs-at : (test : A → A → Bool) (l : List A) (d : A) → pairs test l ≡ true → (i j : ℕ) → i < j → j < length l → test (get_or l i d) (get_or l j d) ≡ true
  unfolding pairs
  pairs-at test [] d e i j h k = absurd (not-suc-le-zero k)
  pairs-at test (a ∷ l) d e i zero h k = absurd (not-suc-le-zero h)
  pairs-at test (a ∷ l) d e zero (suc j) h k = every-at (test a) l d (both_left (every (test a) l) (pairs test l) e) j (le_of_suc-le-suc k)
  pairs-at test (a ∷ l) d e (suc i) (suc j) h k =
      pairs-at test l d (both_right (every (test a) l) (pairs test l) e) i j (le_of_suc-le-suc h) (le_of_suc-le-suc k)
