-- Why a line is malformed: each cause is told exactly when its condition holds and none of those before it, and at its place.
use Rattle.std.proofs.Math.Path.{◌≡◌, refl, sym}
use Rattle.std.proofs.Common.{◌∙◌, ap, subst, arith}
use Rattle.std.specs.Prelude.{Bool, ◌↔◌, List, [], ◌∷◌, ℕ, ◌+◌, ◌<◌, ◌≤◌, get_or, take, Result, Ok, Err}
use Rattle.std.proofs.Math.Bool.{true, false, cond}
use borrow.Author.Tests.{eq-eqb, eqb-false, eqb-true, le-ltb, lt-ltb, ltb-false, ltb-true, ne_eqb}
use Rattle.std.proofs.Math.Dec.{eqb, ltb}
use Rattle.std.proofs.Math.ListN.{length}
use Rattle.text.specs.Cut.{first_from}
use Rattle.text.specs.Cut.From.{from_after, from_first, from_stands}
use Rattle.room.specs.Label.{same}
use Rattle.room.specs.Label.Match.{same_not, same_refl, same_true}
use Rattle.syntax.specs.Cause.{malformed}
use Rattle.syntax.specs.Shape.{line_limit, is_set, is_get, opening, closing, equals, get_shape, set_shape, quoted, shape}
use Rattle.syntax.specs.declared.cause.Cause.{Cause}
use Rattle.syntax.specs.declared.cause.Cause.TheVariants.{Overrun, NoVerb, NoOpeningQuote, NoClosingQuote, NoEquals}
use Rattle.syntax.specs.declared.shape.Shape.{Shape}
use Rattle.syntax.specs.declared.cause.Malformed.{Malformed}
use Rattle.syntax.specs.declared.shape.Shape.TheVariants.{Set}

-- ---- the conditions in words

-- the line begins with `SA`, or with `GA`
pub data Verb (line : List ℕ) : Type 0 where
  set : take 2 line ≡ 0x53 ∷ 0x41 ∷ [] → Verb line
  get : take 2 line ≡ 0x47 ∷ 0x41 ∷ [] → Verb line

-- a quote stands where the opening one should
abbrev pub Opened : List ℕ → Type 0
Opened line = get_or line (opening line) 0 ≡ 0x22

-- no b stands behind place a
abbrev pub NoneBehind : (b a : ℕ) → List ℕ → Type 0
NoneBehind b a line = (i : ℕ) → a < i → i < length line → get_or line i 0 ≡ b → ⊥

-- the second quote stands at c: the next behind the opening one
pub record Second (line : List ℕ) (c : ℕ) : Type 0 where
  pub behind : opening line < c
  pub within : c < length line
  pub quote : get_or line c 0 ≡ 0x22
  pub next : (i : ℕ) → opening line < i → i < c → get_or line i 0 ≡ 0x22 → ⊥

-- there is a second quote, and no `=` behind it
pub record Undivided (line : List ℕ) : Type 0 where
  pub close : ℕ
  pub second : Second line close
  pub none : NoneBehind 0x3D close line

-- a cause, with its place
abbrev Why : List ℕ → Cause → ℕ → Type 0
Why line Overrun n = (64 < length line) × (n ≡ 64)
Why line NoVerb n = (length line ≤ 64) × (Verb line → ⊥) × (n ≡ 0)
Why line NoOpeningQuote n = (length line ≤ 64) × Verb line × (Opened line → ⊥) × (n ≡ opening line)
Why line NoClosingQuote n = (length line ≤ 64) × Verb line × Opened line × NoneBehind 0x22 (opening line) line × (n ≡ length line)
Why line NoEquals n = (length line ≤ 64) × (take 2 line ≡ 0x53 ∷ 0x41 ∷ []) × Opened line × Undivided line × (n ≡ length line)

-- ---- the tests of the definition say these conditions

none_behind : (b a : ℕ) (line : List ℕ) → length line ≤ first_from b (a + 1) line → NoneBehind b a line
none_behind b a line l i m w h = from_first b (a + 1) line i (omega arith) (omega arith) h

none_found : (b a : ℕ) (line : List ℕ) → NoneBehind b a line → ltb (first_from b (a + 1) line) (length line) ≡ false
none_found b a line n = go (ltb (first_from b (a + 1) line) (length line)) refl
  where
    go : (t : Bool) → ltb (first_from b (a + 1) line) (length line) ≡ t → t ≡ false
    go true e =
        let l = ltb-true (first_from b (a + 1) line) (length line) e in
        absurd (n (first_from b (a + 1) line) (omega (arith, from_after b (a + 1) line)) l (from_stands b (a + 1) line l))
    go false e = refl

module _ (line : List ℕ) where
  closing-second : closing line < length line → Second line (closing line)
  unfolding closing
  closing-second l = record {
    behind = omega (arith, from_after 0x22 (opening line + 1) line);
    within = l;
    quote = from_stands 0x22 (opening line + 1) line l;
    next = λ i m w h. from_first 0x22 (opening line + 1) line i (omega arith) w h;
  }

  second_closing : (c : ℕ) → Second line c → closing line ≡ c
  unfolding closing
  second_closing c s = go (ltb (closing line) c) refl (ltb c (closing line)) refl
    where
      go : (a : Bool) → ltb (closing line) c ≡ a → (b : Bool) → ltb c (closing line) ≡ b → closing line ≡ c
      go true a b e =
          let l = ltb-true (closing line) c a in
          let w : closing line < length line = omega (arith, s.within) in
          let k = closing-second w in
          absurd (s.next (closing line) k.behind l k.quote)
      go false a true b =
          absurd (from_first 0x22 (opening line + 1) line c (omega (arith, s.behind)) (ltb-true c (closing line) b) s.quote)
      go false a false b = omega (arith, ltb-false (closing line) c a, ltb-false c (closing line) b)

  verb_tested : length line ≤ 64 → Verb line → shape line ≡ quoted line (cond (is_set line) (set_shape line) (get_shape line))
  unfolding shape line_limit is_set is_get
  verb_tested short (set e) = rw (le-ltb 64 (length line) short, e, same_refl (0x53 ∷ 0x41 ∷ []))
  verb_tested short (get e) =
      let n : same (0x47 ∷ 0x41 ∷ []) (0x53 ∷ 0x41 ∷ []) ≡ false = same_not (0x47 ∷ 0x41 ∷ []) (0x53 ∷ 0x41 ∷ []) (λ q. let z : ◌≡◌ {A = ℕ} 0x47 0x53 = cc in omega arith) in
      rw (le-ltb 64 (length line) short, e, same_refl (0x47 ∷ 0x41 ∷ []), n)

  is_set_lem : take 2 line ≡ 0x53 ∷ 0x41 ∷ [] → is_set line ≡ true
  unfolding is_set
  is_set_lem e = rw e (same_refl (0x53 ∷ 0x41 ∷ []))

-- ---- what a cause that is told says

module _ (line : List ℕ) (c : Cause) (n : ℕ) where
  because : (k : Cause) (m : ℕ) → Why line k m → ◌≡◌ {A = Result Shape Malformed} (Err (malformed k m)) (Err (malformed c n)) → Why line c n
  because k m w h =
      let e : malformed k m ≡ malformed c n = cc in
      let p : k ≡ c = ap (λ x. x.cause) e in
      let q : m ≡ n = ap (λ x. x.place) e in
      subst (Why line c) q (subst (λ x. Why line x m) p w)

  quoted-why : length line ≤ 64 → Verb line → (s : Result Shape Malformed) → (closing line < length line → Opened line → s ≡ Err (malformed c n) → Why line c n)
      → quoted line s ≡ Err (malformed c n) → Why line c n
  unfolding quoted closing
  quoted-why short v s f h = go (eqb (get_or line (opening line) 0) 0x22) refl (ltb (closing line) (length line)) refl h
    where
      go : (a : Bool) → eqb (get_or line (opening line) 0) 0x22 ≡ a → (b : Bool) → ltb (closing line) (length line) ≡ b
          → cond a (cond b s (Err (malformed NoClosingQuote (length line)))) (Err (malformed NoOpeningQuote (opening line))) ≡ Err (malformed c n) → Why line c n
      go true a true b h = f (ltb-true (closing line) (length line) b) (eqb-true (get_or line (opening line) 0) 0x22 a) h
      go true a false b h =
          because NoClosingQuote (length line)
          (short, v, eqb-true (get_or line (opening line) 0) 0x22 a, none_behind 0x22 (opening line) line (ltb-false (closing line) (length line) b), refl)
          h
      go false a b e h = because NoOpeningQuote (opening line) (short, v, eqb-false (get_or line (opening line) 0) 0x22 a, refl) h

  set_why : length line ≤ 64 → take 2 line ≡ 0x53 ∷ 0x41 ∷ [] → closing line < length line → Opened line → set_shape line ≡ Err (malformed c n) → Why line c n
  unfolding set_shape equals
  set_why short v w o h = go (ltb (equals line) (length line)) refl h
    where
      go : (a : Bool) → ltb (equals line) (length line) ≡ a
          → cond a (Ok (Set (opening line) (closing line) (equals line))) (Err (malformed NoEquals (length line))) ≡ Err (malformed c n) → Why line c n
      go true a h = absurd (let z : ◌≡◌ {A = ℕ} 0 1 = cc in omega arith)
      go false a h =
          let u : Undivided line = record {
            close = closing line;
            second = closing-second line w;
            none = none_behind 0x3D (closing line) line (ltb-false (equals line) (length line) a);
          } in
          because NoEquals (length line) (short, v, o, u, refl) h

  get_why : get_shape line ≡ Err (malformed c n) → Why line c n
  unfolding get_shape
  get_why h = absurd (let z : ◌≡◌ {A = ℕ} 0 1 = cc in omega arith)

  told : shape line ≡ Err (malformed c n) → Why line c n
  unfolding shape line_limit is_set is_get
  told h = go (ltb 64 (length line)) refl (is_set line) refl (is_get line) refl h
    where
      never : is_set line ≡ false → is_get line ≡ false → Verb line → ⊥
      never a b (set e) = let z : true ≡ false = sym (is_set_lem line e) ∙ a in absurd (let y : ◌≡◌ {A = ℕ} 0 1 = cc in omega arith)
      never a b (get e) =
          let g : is_get line ≡ true = rw e (same_refl (0x47 ∷ 0x41 ∷ [])) in
          let z : true ≡ false = sym g ∙ b in
          absurd (let y : ◌≡◌ {A = ℕ} 0 1 = cc in omega arith)

      go : (o : Bool) → ltb 64 (length line) ≡ o → (a : Bool) → is_set line ≡ a → (b : Bool) → is_get line ≡ b
          → cond o (Err (malformed Overrun 64)) (cond a (quoted line (set_shape line)) (cond b (quoted line (get_shape line)) (Err (malformed NoVerb 0)))) ≡ Err (malformed c n)
          → Why line c n
      go true o a p b q h = because Overrun 64 (ltb-true 64 (length line) o, refl) h
      go false o true p b q h =
          let short = ltb-false 64 (length line) o in
          let v = same_true (take 2 line) (0x53 ∷ 0x41 ∷ []) p in
          quoted-why short (set v) (set_shape line) (set_why short v) h
      go false o false p true q h =
          quoted-why (ltb-false 64 (length line) o) (get (same_true (take 2 line) (0x47 ∷ 0x41 ∷ []) q)) (get_shape line) (λ w k g. get_why g) h
      go false o false p false q h = because NoVerb 0 (ltb-false 64 (length line) o, never p q, refl) h

-- ---- a cause whose condition holds is told

back : (line : List ℕ) (c : Cause) (n : ℕ) → Why line c n → shape line ≡ Err (malformed c n)
unfolding shape line_limit is_set is_get quoted set_shape closing equals
back line Overrun n (l, e) = rw (lt-ltb 64 (length line) l, e)
back line NoVerb n (short, v, e) =
    let a : is_set line ≡ false = same_not (take 2 line) (0x53 ∷ 0x41 ∷ []) (λ q. v (set q)) in
    let b : is_get line ≡ false = same_not (take 2 line) (0x47 ∷ 0x41 ∷ []) (λ q. v (get q)) in
    rw (le-ltb 64 (length line) short, a, b, e)
back line NoOpeningQuote n (short, v, o, e) = verb_tested line short v ∙ rw (ne_eqb (get_or line (opening line) 0) 0x22 o, e)
back line NoClosingQuote n (short, v, o, none, e) =
    verb_tested line short v ∙ rw (eq-eqb (get_or line (opening line) 0) 0x22 o, none_found 0x22 (opening line) line none, e)
back line NoEquals n (short, v, o, u, e) =
    let k = second_closing line u.close u.second in
    let w : ltb (closing line) (length line) ≡ true = lt-ltb (closing line) (length line) (omega (arith, u.second.within)) in
    let d : ltb (first_from 0x3D (closing line + 1) line) (length line) ≡ false = rw k (none_found 0x3D u.close line u.none) in
    verb_tested line short (set v) ∙ rw (is_set_lem line v, eq-eqb (get_or line (opening line) 0) 0x22 o, w, d, e)

-- ---- the five causes, in the order in which they are looked for

module _ (line : List ℕ) (n : ℕ) where
  -- over 64 bytes: at the 65th
  pub exactly_overrun : (shape line ≡ Err (malformed Overrun n)) ↔ ((64 < length line) × (n ≡ 64))
  exactly_overrun = (told line Overrun n, back line Overrun n)

  -- no verb: at the start
  pub exactly_no_verb : (shape line ≡ Err (malformed NoVerb n)) ↔ ((length line ≤ 64) × (Verb line → ⊥) × (n ≡ 0))
  exactly_no_verb = (told line NoVerb n, back line NoVerb n)

  -- no opening quote: where it should stand
  pub exactly_no_opening_quote : (shape line ≡ Err (malformed NoOpeningQuote n)) ↔ ((length line ≤ 64) × Verb line × (Opened line → ⊥) × (n ≡ opening line))
  exactly_no_opening_quote = (told line NoOpeningQuote n, back line NoOpeningQuote n)

  -- no closing quote: at the line's end
  pub exactly_no_closing_quote : (shape line ≡ Err (malformed NoClosingQuote n))
      ↔ ((length line ≤ 64) × Verb line × Opened line × NoneBehind 0x22 (opening line) line × (n ≡ length line))
  exactly_no_closing_quote = (told line NoClosingQuote n, back line NoClosingQuote n)

  -- a set line without `=`: at the line's end
  pub exactly_no_equals : (shape line ≡ Err (malformed NoEquals n))
      ↔ ((length line ≤ 64) × (take 2 line ≡ 0x53 ∷ 0x41 ∷ []) × Opened line × Undivided line × (n ≡ length line))
  exactly_no_equals = (told line NoEquals n, back line NoEquals n)

opening-near : (line : List ℕ) → opening line ≤ 3
unfolding opening
opening-near line = go (eqb (get_or line 2 0) 0x20)
  where
    go : (b : Bool) → cond b 3 2 ≤ 3
    go true = omega arith
    go false = omega arith

pub place-within : (line : List ℕ) (c : Cause) (n : ℕ) → shape line ≡ Err (malformed c n) → n ≤ 64
place-within line c n h = go c (told line c n h)
  where
    go : (c : Cause) → Why line c n → n ≤ 64
    go Overrun (l, e) = omega arith
    go NoVerb (s, v, e) = omega arith
    go NoOpeningQuote (s, v, o, e) = omega (arith, opening-near line)
    go NoClosingQuote (s, v, o, k, e) = omega arith
    go NoEquals (s, v, o, k, e) = omega arith
