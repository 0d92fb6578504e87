-- What an index group says, and when.
use Rattle.std.specs.Prelude.{◌≡◌, refl, Bool, true, false, cond, List, [], ◌∷◌, ◌++◌, ℕ, suc, ◌+◌, eqb, length, Option, Some, None}
use Rattle.std.proofs.Common.{sym, ◌∙◌, ap, arith, eq-eqb, eqb-true, length-append, take_all}
use Rattle.text.specs.Cut.{index_of, has, before, after}
use Rattle.text.specs.Cut.Found.{has-found}
use Rattle.text.specs.Cut.Lacking.{after-joined, before-joined, has-joined, index_joined, lacks_append, lacks_cons, parts_joined, through-first}
use Rattle.text.specs.Cut.Laws.{index_within}
use Rattle.text.specs.Number.{read_number}
use Rattle.text.specs.Number.Bytes.{number-begins, number-lacks, number-lacks_low}
use Rattle.catalogue.specs.declared.groups.Group.{Group}
use Rattle.catalogue.specs.declared.groups.Group.TheVariants.{Single, Pair}
use Rattle.syntax.specs.IndexGroup.{pair_of, closed_pair, inside_pair, read_pair, or_pair, read_group}

-- a number, or the two numbers of a pair: `(`, one, `,`, the other, `)`
pub data GroupSays (s : List ℕ) : Group → Type 0 where
  single : (a : ℕ) → read_number 3 s ≡ Some a → GroupSays s (Single a)
  pair : (u w : List ℕ) (a b : ℕ) → s ≡ 0x28 ∷ (u ++ (0x2C ∷ (w ++ (0x29 ∷ [])))) → read_number 3 u ≡ Some a → read_number 3 w ≡ Some b
      → GroupSays s (Pair a b)

-- ---- what a group that is right says

wrong {ℓ} : {A : Type ℓ} (g : Group) → None ≡ Some g → A
wrong g h = absurd (let z : ◌≡◌ {A = ℕ} 0 1 = cc in omega arith)

numbers-told : (s u w : List ℕ) (g : Group) (m n : Option ℕ) → s ≡ 0x28 ∷ (u ++ (0x2C ∷ (w ++ (0x29 ∷ [])))) → read_number 3 u ≡ m → read_number 3 w ≡ n
    → pair_of m n ≡ Some g → GroupSays s g
unfolding pair_of
numbers-told s u w g (Some a) (Some b) p e f h = let q : Pair a b ≡ g = cc in rw q at (pair u w a b p e f)
numbers-told s u w g (Some a) None p e f h = wrong g h
numbers-told s u w g None (Some b) p e f h = wrong g h
numbers-told s u w g None None p e f h = wrong g h

-- where the first b is the last byte
last_joined : (b : ℕ) (s : List ℕ) → index_of b s + 1 ≡ length s → s ≡ before b s ++ (b ∷ [])
last_joined b s h = sym (take_all (suc (index_of b s)) s (omega arith)) ∙ through-first b s (has-found b s (index_of b s) refl (omega arith))

closed-told : (s u v : List ℕ) (g : Group) → s ≡ 0x28 ∷ (u ++ (0x2C ∷ v)) → closed_pair u v ≡ Some g → GroupSays s g
unfolding closed_pair
closed-told s u v g p h = go (eqb (index_of 0x29 v + 1) (length v)) refl h
  where
    go : (b : Bool) → eqb (index_of 0x29 v + 1) (length v) ≡ b → cond b (pair_of (read_number 3 u) (read_number 3 (before 0x29 v))) None ≡ Some g
        → GroupSays s g
    go true t h =
        let q : s ≡ 0x28 ∷ (u ++ (0x2C ∷ (before 0x29 v ++ (0x29 ∷ [])))) =
        p ∙ ap (λ l. 0x28 ∷ (u ++ (0x2C ∷ l))) (last_joined 0x29 v (eqb-true (index_of 0x29 v + 1) (length v) t)) in
        numbers-told s u (before 0x29 v) g (read_number 3 u) (read_number 3 (before 0x29 v)) q refl refl h
    go false t h = wrong g h

inside_told : (s v : List ℕ) (g : Group) → s ≡ 0x28 ∷ v → inside_pair v ≡ Some g → GroupSays s g
unfolding inside_pair
inside_told s v g p h = go (has 0x2C v) refl h
  where
    go : (b : Bool) → has 0x2C v ≡ b → cond b (closed_pair (before 0x2C v) (after 0x2C v)) None ≡ Some g → GroupSays s g
    go true t h = closed-told s (before 0x2C v) (after 0x2C v) g (p ∙ ap (λ l. 0x28 ∷ l) (parts_joined 0x2C v t)) h
    go false t h = wrong g h

pair_told : (s : List ℕ) (g : Group) → read_pair s ≡ Some g → GroupSays s g
unfolding read_pair
pair_told [] g h = wrong g h
pair_told (b ∷ v) g h = go (eqb b 0x28) refl h
  where
    go : (t : Bool) → eqb b 0x28 ≡ t → cond t (inside_pair v) None ≡ Some g → GroupSays (b ∷ v) g
    go true t h = inside_told (b ∷ v) v g (ap (λ x. x ∷ v) (eqb-true b 0x28 t)) h
    go false t h = wrong g h

pub group_told : (s : List ℕ) (g : Group) → read_group s ≡ Some g → GroupSays s g
unfolding read_group or_pair
group_told s g h = go (read_number 3 s) refl h
  where
    go : (n : Option ℕ) → read_number 3 s ≡ n → or_pair n s ≡ Some g → GroupSays s g
    go (Some a) e h = let q : Single a ≡ g = cc in rw q at (single a e)
    go None e h = pair_told s g h

-- ---- a group that says numbers is right

closed_said : (u w : List ℕ) (a b : ℕ) → read_number 3 u ≡ Some a → read_number 3 w ≡ Some b → closed_pair u (w ++ (0x29 ∷ [])) ≡ Some (Pair a b)
unfolding closed_pair pair_of
closed_said u w a b e f =
    let n = number-lacks_low 3 0x29 w b (omega arith) f in
    let l : length w + 1 ≡ length (w ++ (0x29 ∷ [])) = simp length-append (omega arith) in
    rw (index_joined 0x29 w [] n, before-joined 0x29 w [] n, eq-eqb (length w + 1) (length (w ++ (0x29 ∷ []))) l, e, f)

pub group_said : (s : List ℕ) (g : Group) → GroupSays s g → read_group s ≡ Some g
unfolding read_group or_pair read_pair inside_pair
group_said s g (single a e) = rw e
group_said s g (pair u w a b p e f) =
    let v = w ++ (0x29 ∷ []) in
    let n = number-lacks_low 3 0x2C u a (omega arith) e in
    rw (p, number-begins 3 0x28 (u ++ (0x2C ∷ v)) (omega arith), has-joined 0x2C u v n, before-joined 0x2C u v n, after-joined 0x2C u v n)
    (closed_said u w a b e f)

-- ---- no `>` stands in a group

pub group_lacks : (s : List ℕ) (g : Group) → GroupSays s g → index_of 0x3E s ≡ length s
group_lacks s g (single a e) = number-lacks 3 0x3E s a (omega arith) e
group_lacks s g (pair u w a b p e f) =
    let n = number-lacks 3 0x3E u a (omega arith) e in
    let m = number-lacks 3 0x3E w b (omega arith) f in
    let z = index_within 0x3E [] in
    let c = lacks_append 0x3E w (0x29 ∷ []) m (lacks_cons 0x3E 0x29 [] (λ e. omega arith) (omega arith)) in
    rw p
    (lacks_cons 0x3E 0x28 (u ++ (0x2C ∷ (w ++ (0x29 ∷ [])))) (λ e. omega arith)
    (lacks_append 0x3E u (0x2C ∷ (w ++ (0x29 ∷ []))) n (lacks_cons 0x3E 0x2C (w ++ (0x29 ∷ [])) (λ e. omega arith) c)))
