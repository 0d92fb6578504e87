-- The first of a given byte, by its place: where it stands, and what stands before it.
use Rattle.std.specs.Prelude.{◌≡◌, refl, Bool, true, false, cond, List, [], ◌∷◌, ◌++◌, ℕ, zero, suc, ◌≤◌, ◌<◌, eqb, length, get_or, take, drop}
use Rattle.std.proofs.Common.{sym, ap, ◌∙◌, add-zero, arith, eq-eqb, eqb-true, take-append-drop, get_or-drop, get_or-take, length-take-le}
use Rattle.std.proofs.lemmas.Bool.{eqb-false}
use Rattle.text.specs.Cut.{index_of, before}
use Rattle.text.specs.Cut.Laws.{as_many, index_behind, index_within}

at-start : (b : ℕ) (s : List ℕ) → get_or s 0 b ≡ b → index_of b s ≡ 0
unfolding index_of
at-start b [] h = refl
at-start b (x ∷ s) h = rw (eq-eqb x b h)

-- no b stands before the place i, and there stands b or the end: the first b is at i
pub index_at : (b i : ℕ) (s : List ℕ) → i ≤ length s → index_of b (take i s) ≡ length (take i s) → get_or s i b ≡ b → index_of b s ≡ i
index_at b i s l n h =
    let here : index_of b (drop i s) ≡ 0 = at-start b (drop i s) (rw (get_or-drop i s 0 b, add-zero i) h) in
    let whole : index_of b (take i s ++ drop i s) ≡ i = omega (arith, index_behind b (take i s) (drop i s) n, length-take-le i s l) in
    rw take-append-drop at whole

-- where it stands within, it is b, and none stands before it
pub index_stands : (b : ℕ) (s : List ℕ) (d : ℕ) → index_of b s < length s → get_or s (index_of b s) d ≡ b
unfolding index_of
index_stands b [] d l = absurd (omega arith)
index_stands b (x ∷ s) d l = go (eqb x b) refl (index_stands b s d) l
  where
    go : (t : Bool) → eqb x b ≡ t → (index_of b s < length s → get_or s (index_of b s) d ≡ b) → cond t 0 (suc (index_of b s)) < suc (length s)
        → get_or (x ∷ s) (cond t 0 (suc (index_of b s))) d ≡ b
    go true e f l = eqb-true x b e
    go false e f l = f (omega arith)

pub index_first : (b : ℕ) (s : List ℕ) (i d : ℕ) → i < index_of b s → get_or s i d ≡ b → ⊥
unfolding index_of
index_first b [] i d l h = omega arith
index_first b (x ∷ s) zero d l h = go (eqb x b) refl l
  where
    go : (t : Bool) → eqb x b ≡ t → 0 < cond t 0 (suc (index_of b s)) → ⊥
    go true e l = omega arith
    go false e l = eqb-false x b e h
index_first b (x ∷ s) (suc i) d l h = index_first b s i d (go (eqb x b) l) h
  where
    go : (t : Bool) → suc i < cond t 0 (suc (index_of b s)) → i < index_of b s
    go true l = absurd (omega arith)
    go false l = omega arith

-- ---- what stands before it

pub before-length : (b : ℕ) (s : List ℕ) → length (before b s) ≡ index_of b s
unfolding before
before-length b s = length-take-le (index_of b s) s (index_within b s)

-- it is a first part of the whole
pub before-taken : (b : ℕ) (s : List ℕ) → take (length (before b s)) s ≡ before b s
unfolding before
before-taken b s = as_many (index_of b s) s

pub before_at : (b : ℕ) (s : List ℕ) (i : ℕ) → index_of b s ≡ i → before b s ≡ take i s
before_at b s i e = sym (before-taken b s) ∙ ap (λ n. take n s) (before-length b s ∙ e)

pub before-short : (b : ℕ) (s : List ℕ) → length (before b s) ≤ length s
before-short b s = omega (arith, before-length b s, index_within b s)

pub before-byte : (b : ℕ) (s : List ℕ) (i d : ℕ) → i < length (before b s) → get_or (before b s) i d ≡ get_or s i d
before-byte b s i d l = ap (λ u. get_or u i d) (sym (before-taken b s)) ∙ get_or-take (length (before b s)) s i d l
