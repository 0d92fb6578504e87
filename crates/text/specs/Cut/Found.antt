-- Whether a byte stands in a sequence, and what that says of its place; the parts around it by their places.
use Rattle.std.specs.Prelude.{◌≡◌, true, false, List, [], ◌∷◌, ℕ, suc, ◌+◌, ◌-◌, ◌<◌, ◌≤◌, eqb, length, take, drop}
use Rattle.std.proofs.Math.Path.{refl}
use Rattle.std.proofs.Common.{add-one, arith, length-drop, take_all}
use borrow.Author.Tests.{lt-ltb, le-ltb, ltb-true}
use Rattle.std.proofs.Math.Dec.{leb-suc-suc}
use Rattle.text.specs.Cut.{index_of, has, before, after}

-- ---- by the first byte

pub has-nothing : (b : ℕ) → has b [] ≡ false
unfolding has index_of
has-nothing b = refl

pub has_here : (b x : ℕ) (s : List ℕ) → eqb x b ≡ true → has b (x ∷ s) ≡ true
unfolding has index_of
has_here b x s h = rw h (lt-ltb 0 (suc (length s)) (omega arith))

pub has-behind : (b x : ℕ) (s : List ℕ) → eqb x b ≡ false → has b (x ∷ s) ≡ has b s
unfolding has index_of
has-behind b x s h = rw h (leb-suc-suc (suc (index_of b s)) (length s))

-- ---- by its place

module _ (b : ℕ) (s : List ℕ) where
  -- a byte that is there has a place within, and one with a place within is there
  pub has_within : has b s ≡ true → index_of b s < length s
  unfolding has
  has_within h = ltb-true (index_of b s) (length s) h

  -- the parts before and behind its place
  pub before-take : before b s ≡ take (index_of b s) s
  unfolding before
  before-take = refl

  pub after-drop : after b s ≡ drop (suc (index_of b s)) s
  unfolding after
  after-drop = refl

  -- the place that code has found
  module _ (i : ℕ) (e : i ≡ index_of b s) where
    pub has-found : i < length s → has b s ≡ true
    unfolding has
    has-found l = rw (← e) (lt-ltb i (length s) l)

    pub has-none : length s ≤ i → has b s ≡ false
    unfolding has
    has-none l = rw (← e) (le-ltb i (length s) l)

    -- what stands before it and after it, as code hands it on
    pub before-found : take i s ≡ before b s
    before-found = rw (before-take, ← e)

    pub after-found : take (length s - (i + 1)) (drop (i + 1) s) ≡ after b s
    after-found =
        let n : length (drop (i + 1) s) ≤ length s - (i + 1) = simp length-drop (omega arith) in
        rw (take_all (length s - (i + 1)) (drop (i + 1) s) n, after-drop, ← e, add-one)
