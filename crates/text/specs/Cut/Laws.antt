-- Laws of cutting at a byte.
use Rattle.std.specs.Prelude.{◌≡◌, refl, Bool, true, false, cond, List, [], ◌∷◌, ◌++◌, ℕ, zero, suc, ◌+◌, ◌≤◌, ◌<◌, eqb, length, get_or, take, drop}
use Rattle.std.proofs.Common.{sym, ◌∙◌, ap, add-one, zero-add, arith, eq-eqb, ne_eqb, eqb-true, drop_of_length-le, drop-cons}
use Rattle.text.specs.Cut.{index_of}
use Rattle.text.specs.Every.{every}
use Rattle.text.specs.Every.Laws.{every-both}

at_head : (b x : ℕ) (s : List ℕ) → x ≡ b → index_of b (x ∷ s) ≡ 0
unfolding index_of
at_head b x s h = rw (eq-eqb x b h)

past_head : (b x : ℕ) (s : List ℕ) → (x ≡ b → ⊥) → index_of b (x ∷ s) ≡ suc (index_of b s)
unfolding index_of
past_head b x s h = rw (ne_eqb x b h)

-- a search has passed i bytes of s, none of them b
pub record Searched (b : ℕ) (s : List ℕ) (i : ℕ) : Type 0 where
  pub within : i ≤ length s
  pub rest : index_of b s ≡ i + index_of b (drop i s)

pub searched_start : (b : ℕ) (s : List ℕ) → Searched b s 0
searched_start b s = record { within = omega arith; rest = sym (zero-add (index_of b s)) }

pub searched_next : (b : ℕ) (s : List ℕ) (i : ℕ) → Searched b s i → i < length s → (get_or s i 0 ≡ b → ⊥) → Searched b s (i + 1)
searched_next b s i h l n =
    let e : index_of b (drop i s) ≡ suc (index_of b (drop (i + 1) s)) = rw (add-one, drop-cons s i 0) (past_head b (get_or s i 0) (drop (suc i) s) n) in
    record { within = omega arith; rest = omega (arith, h.rest) }

pub searched_found : (b : ℕ) (s : List ℕ) (i : ℕ) → Searched b s i → i < length s → get_or s i 0 ≡ b → i ≡ index_of b s
searched_found b s i h l n =
    let e : index_of b (drop i s) ≡ 0 = rw (drop-cons s i 0) (at_head b (get_or s i 0) (drop (suc i) s) n) in
    omega (arith, h.rest)

nothing : (b : ℕ) → index_of b [] ≡ 0
unfolding index_of
nothing b = refl

pub searched_all : (b : ℕ) (s : List ℕ) (i : ℕ) → Searched b s i → length s ≤ i → i ≡ index_of b s
searched_all b s i h l =
    let e : index_of b (drop i s) ≡ 0 = rw (drop_of_length-le s l) (nothing b) in
    omega (arith, h.rest)

pub searched_whole : (b : ℕ) (s : List ℕ) (i : ℕ) → Searched b s i → length s ≤ i → length s ≡ index_of b s
searched_whole b s i h l = omega (arith, h.within, searched_all b s i h l)

pub ruleset searching = (searched_start, searched_next, searched_found, searched_whole)

-- ---- a byte that is not there

-- where every byte passes a test that b fails, b is not there
pub index_none : (test : ℕ → Bool) (b : ℕ) (s : List ℕ) → every test s ≡ true → test b ≡ false → index_of b s ≡ length s
index_none test b [] h n = nothing b
index_none test b (x ∷ s) h n =
    let k = every-both test x s h in
    let differ : x ≡ b → ⊥ = λ e. let z : true ≡ false = sym k.0 ∙ ap test e ∙ n in absurd (let y : ◌≡◌ {A = ℕ} 0 1 = cc in omega arith) in
    past_head b x s differ ∙ ap suc (index_none test b s k.1 n)

-- b is first met behind a part that has none
pub index_behind : (b : ℕ) (s t : List ℕ) → index_of b s ≡ length s → index_of b (s ++ t) ≡ length s + index_of b t
unfolding index_of
index_behind b [] t h = sym (zero-add (index_of b t))
index_behind b (x ∷ s) t h = go (eqb x b) refl (index_behind b s t) h
  where
    go : (e : Bool) → eqb x b ≡ e → (index_of b s ≡ length s → index_of b (s ++ t) ≡ length s + index_of b t)
        → cond e 0 (suc (index_of b s)) ≡ suc (length s) → cond (eqb x b) 0 (suc (index_of b (s ++ t))) ≡ suc (length s) + index_of b t
    go true e f h = absurd (omega arith)
    go false e f h = let i = f (omega arith) in rw e (omega arith)

-- ---- a byte's place lies within the text

pub index_within : (b : ℕ) (s : List ℕ) → index_of b s ≤ length s
unfolding index_of
index_within b [] = omega arith
index_within b (x ∷ s) = either (eqb x b) (index_within b s)
  where
    either : (t : Bool) → index_of b s ≤ length s → cond t 0 (suc (index_of b s)) ≤ suc (length s)
    either true h = omega arith
    either false h = omega arith

-- at the place of the first b stands b
pub index_found : (b : ℕ) (s : List ℕ) → get_or s (index_of b s) b ≡ b
unfolding index_of
index_found b [] = refl
index_found b (x ∷ s) = either (eqb x b) refl (index_found b s)
  where
    either : (t : Bool) → eqb x b ≡ t → get_or s (index_of b s) b ≡ b → get_or (x ∷ s) (cond t 0 (suc (index_of b s))) b ≡ b
    either true e h = eqb-true x b e
    either false e h = h

-- ---- a first part, taken again by its own length

pub as_many : (n : ℕ) (s : List ℕ) → take (length (take n s)) s ≡ take n s
as_many zero s = refl
as_many (suc n) [] = refl
as_many (suc n) (x ∷ s) = ap (λ u. x ∷ u) (as_many n s)
