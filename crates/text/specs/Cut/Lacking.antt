-- Byte sequences that lack a byte, and what cutting at it gives where they are joined by it.
use Rattle.std.specs.Prelude.{◌≡◌, refl, Bool, true, false, cond, List, [], ◌∷◌, ◌++◌, ℕ, suc, ◌+◌, eqb, length, take}
use Rattle.std.proofs.Common.{◌∙◌, ap, add-one, arith, eq-eqb, ne_eqb, lt-ltb, le-ltb, ltb-true, length-append, length-take, length-drop, take_at, take-suc}
use Rattle.std.proofs.Math.Seq.{drop-append-add, split_at}
use Rattle.text.specs.Cut.{index_of, has, before, after}
use Rattle.text.specs.Cut.Laws.{index_behind, index_found}

-- s lacks b where the search for b comes to its end
pub lacks_cons : (b x : ℕ) (s : List ℕ) → (x ≡ b → ⊥) → index_of b s ≡ length s → index_of b (x ∷ s) ≡ length (x ∷ s)
unfolding index_of
lacks_cons b x s n h = rw (ne_eqb x b n) (ap suc h)

pub lacks_append : (b : ℕ) (s u : List ℕ) → index_of b s ≡ length s → index_of b u ≡ length u → index_of b (s ++ u) ≡ length (s ++ u)
lacks_append b s u p q = index_behind b s u p ∙ rw (q, length-append)

pub index_joined : (b : ℕ) (s u : List ℕ) → index_of b s ≡ length s → index_of b (s ++ (b ∷ u)) ≡ length s
unfolding index_of
index_joined b s u h =
    let e : index_of b (b ∷ u) ≡ 0 = rw (eq-eqb b b refl) in
    omega (arith, index_behind b s (b ∷ u) h)

-- ---- cutting

pub has-not : (b : ℕ) (s : List ℕ) → index_of b s ≡ length s → has b s ≡ false
unfolding has
has-not b s h = rw h (le-ltb (length s) (length s) (omega arith))

pub has-joined : (b : ℕ) (s u : List ℕ) → index_of b s ≡ length s → has b (s ++ (b ∷ u)) ≡ true
unfolding has
has-joined b s u h = rw (index_joined b s u h) (lt-ltb (length s) (length (s ++ (b ∷ u))) (simp length-append (omega arith)))

pub before-joined : (b : ℕ) (s u : List ℕ) → index_of b s ≡ length s → before b (s ++ (b ∷ u)) ≡ s
unfolding before
before-joined b s u h = rw (index_joined b s u h) (take_at s (b ∷ u) (length s) refl)

pub after-joined : (b : ℕ) (s u : List ℕ) → index_of b s ≡ length s → after b (s ++ (b ∷ u)) ≡ u
unfolding after
after-joined b s u h = rw (index_joined b s u h, ← add-one (length s)) (drop-append-add s (b ∷ u) 1)

-- the lengths of what a byte parts
pub parted : (b : ℕ) (s : List ℕ) → has b s ≡ true → length s ≡ length (before b s) + 1 + length (after b s)
unfolding has before after
parted b s h =
    let l = ltb-true (index_of b s) (length s) h in
    simp (length-take, length-drop) (omega arith)

-- what stands before the first b has none
pub before-lacks : (b : ℕ) (s : List ℕ) → index_of b (before b s) ≡ length (before b s)
unfolding index_of before
before-lacks b [] = refl
before-lacks b (x ∷ s) = go (eqb x b) refl (before-lacks b s)
  where
    go : (t : Bool) → eqb x b ≡ t → index_of b (take (index_of b s) s) ≡ length (take (index_of b s) s)
        → index_of b (take (cond t 0 (suc (index_of b s))) (x ∷ s)) ≡ length (take (cond t 0 (suc (index_of b s))) (x ∷ s))
    go true e h = refl
    go false e h = rw e (ap suc h)

-- what the first b parts, put together again, and the same through that b
module _ (b : ℕ) (s : List ℕ) (h : has b s ≡ true) where
  pub parts_joined : s ≡ before b s ++ b ∷ after b s
  unfolding has before after
  parts_joined = rw (index_found b s) at (split_at s (index_of b s) b (ltb-true (index_of b s) (length s) h))

  pub through-first : take (suc (index_of b s)) s ≡ before b s ++ b ∷ []
  unfolding has before
  through-first = rw (index_found b s) at (take-suc s (index_of b s) b (ltb-true (index_of b s) (length s) h))
