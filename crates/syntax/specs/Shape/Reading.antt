-- Rules for the code that finds a line's shape.
use Rattle.std.specs.Prelude.{◌≡◌, refl, Bool, cond, List, [], ◌∷◌, ℕ, ◌<◌, ◌≤◌, eqb, leb, ltb, length, get_or, take, Result, Ok, Err}
use Rattle.std.proofs.Math.Path.{sym}
use Rattle.std.proofs.Common.{◌∙◌, ap, arith, eq-eqb, ne_eqb, leb-true, lt-ltb, le-ltb, length-take}
use Rattle.std.proofs.Math.Bool.{true, false}
use Rattle.std.proofs.Math.ListN.{get_or-eq_default}
use Rattle.room.specs.Label.{same}
use Rattle.room.specs.Label.Match.{same_not, same_refl}
use Rattle.syntax.specs.Cause.{malformed}
use Rattle.syntax.specs.Shape.{line_limit, is_set, is_get, opening, closing, equals, get_shape, set_shape, quoted, shape}
use Rattle.syntax.specs.Shape.Quotes.{Between, quotes, quotes-at, quotes-missing}
use Rattle.syntax.specs.declared.cause.Cause.{Cause}
use Rattle.syntax.specs.declared.cause.Cause.TheVariants.{Overrun, NoVerb, NoOpeningQuote, NoClosingQuote, NoEquals}
use Rattle.syntax.specs.declared.shape.Quotes.{Quotes}
use Rattle.syntax.specs.declared.shape.Shape.{Shape}
use Rattle.syntax.specs.declared.cause.Malformed.{Malformed}
use Rattle.syntax.specs.declared.shape.Shape.TheVariants.{Get, Set}

-- ---- the opening quote

pub opens_late : (line : List ℕ) → get_or line 2 0 ≡ 0x20 → 3 ≡ opening line
unfolding opening
opens_late line e = rw (eq-eqb (get_or line 2 0) 0x20 e)

pub opens_early : (line : List ℕ) → (get_or line 2 0 ≡ 0x20 → ⊥) → 2 ≡ opening line
unfolding opening
opens_early line e = rw (ne_eqb (get_or line 2 0) 0x20 e)

-- a line that ends before has no space there
pub opens_nowhere : (line : List ℕ) → length line ≤ 2 → 2 ≡ opening line
unfolding opening
opens_nowhere line l = rw (get_or-eq_default line 0 l)

pub ruleset opening-rules = (opens_late, opens_early, opens_nowhere)

-- ---- the verb

pub too_long : (line : List ℕ) (limit : ℕ) → limit < length line → leb 64 limit ≡ true → (m : Malformed) → m ≡ malformed Overrun 64 → Err m ≡ shape line
unfolding shape line_limit
too_long line limit l h m e = let k = leb-true 64 limit h in rw (e, lt-ltb 64 (length line) (omega arith))

no_verb : (line : List ℕ) → length line ≤ 64 → is_set line ≡ false → is_get line ≡ false → Err (malformed NoVerb 0) ≡ shape line
unfolding shape line_limit
no_verb line short e f = rw (le-ltb 64 (length line) short, e, f)

pub too_short : (line : List ℕ) → length line < 2 → (m : Malformed) → m ≡ malformed NoVerb 0 → Err m ≡ shape line
unfolding is_set is_get
too_short line h m k = rw k (no_verb line (omega arith) (never 0x53) (never 0x47))
  where
    never : (v : ℕ) → same (take 2 line) (v ∷ 0x41 ∷ []) ≡ false
    never v = same_not (take 2 line) (v ∷ 0x41 ∷ []) (λ e. omega (arith, ap length e, length-take 2 line))

first_two : (line : List ℕ) → 2 ≤ length line → take 2 line ≡ get_or line 0 0 ∷ get_or line 1 0 ∷ []
first_two [] h = absurd (omega arith)
first_two (x ∷ []) h = absurd (omega arith)
first_two (x ∷ y ∷ s) h = refl

module _ (line : List ℕ) (long : 2 ≤ length line) where
  verb_is : (a b : ℕ) → get_or line 0 0 ≡ a → get_or line 1 0 ≡ b → same (take 2 line) (a ∷ b ∷ []) ≡ true
  verb_is a b p q = rw (first_two line long, p, q) (same_refl (a ∷ b ∷ []))

  verb_not : (a b : ℕ) → (get_or line 0 0 ≡ a → get_or line 1 0 ≡ b → ⊥) → same (take 2 line) (a ∷ b ∷ []) ≡ false
  verb_not a b n = same_not (take 2 line) (a ∷ b ∷ []) (λ e. let f = sym (first_two line long) ∙ e in n (cc) (cc))

  module _ (short : length line ≤ 64) where
    pub other_letter : (get_or line 1 0 ≡ 0x41 → ⊥) → (m : Malformed) → m ≡ malformed NoVerb 0 → Err m ≡ shape line
    unfolding is_set is_get
    other_letter n m k = rw k (no_verb line short (verb_not 0x53 0x41 (λ p q. n q)) (verb_not 0x47 0x41 (λ p q. n q)))

    pub other_verb : (get_or line 0 0 ≡ 0x53 → ⊥) → (get_or line 0 0 ≡ 0x47 → ⊥) → (m : Malformed) → m ≡ malformed NoVerb 0 → Err m ≡ shape line
    unfolding is_set is_get
    other_verb n o m k = rw k (no_verb line short (verb_not 0x53 0x41 (λ p q. n p)) (verb_not 0x47 0x41 (λ p q. o p)))

  module _ (short : length line ≤ 64) (e : get_or line 1 0 ≡ 0x41) (r : Result Shape Malformed) where
    verb : (a b : Bool) → is_set line ≡ a → is_get line ≡ b
        → shape line ≡ cond a (quoted line (set_shape line)) (cond b (quoted line (get_shape line)) (Err (malformed NoVerb 0)))
    unfolding shape line_limit
    verb a b e f = rw (le-ltb 64 (length line) short, e, f)

    pub verb_set : get_or line 0 0 ≡ 0x53 → r ≡ quoted line (set_shape line) → r ≡ shape line
    unfolding is_set
    verb_set f h = h ∙ sym (verb true (is_get line) (verb_is 0x53 0x41 f e) refl)

    pub verb_get : (get_or line 0 0 ≡ 0x53 → ⊥) → get_or line 0 0 ≡ 0x47 → r ≡ quoted line (get_shape line) → r ≡ shape line
    unfolding is_set is_get
    verb_get n f h = h ∙ sym (verb false true (verb_not 0x53 0x41 (λ p q. n p)) (verb_is 0x47 0x41 f e))

pub ruleset shape-rules = (too_long, too_short, other_letter, other_verb, verb_set, verb_get)

-- ---- what a get line's shape tells

never_get {ℓ} : {A : Type ℓ} (m : Malformed) (o c : ℕ) → Err m ≡ Ok (Get o c) → A
never_get m o c h = absurd (let z : ◌≡◌ {A = ℕ} 0 1 = cc in omega arith)

get_told : (line : List ℕ) (o c : ℕ) (q : Result Quotes Malformed) → quotes line ≡ q → quoted line (get_shape line) ≡ Ok (Get o c) → Between line o c
unfolding get_shape
get_told line o c (Ok s) e h =
    let w = quotes-at line s.opening s.closing e in
    let g : Ok (Get (opening line) (closing line)) ≡ Ok (Get o c) = sym (w.shapes (get_shape line)) ∙ h in
    let p : s.opening ≡ o = sym w.opened ∙ (cc) in
    let q : s.closing ≡ c = sym w.closed ∙ (cc) in
    rw (p, q) at w
get_told line o c (Err m) e h = never_get m o c (sym (quotes-missing line (get_shape line) m e) ∙ h)

set_gets {ℓ} : {A : Type ℓ} (line : List ℕ) (o c : ℕ) → quoted line (set_shape line) ≡ Ok (Get o c) → A
unfolding quoted set_shape
set_gets {A = A} line o c h =
    go (eqb (get_or line (opening line) 0) 0x22) (ltb (closing line) (length line)) (ltb (equals line) (length line)) h
  where
    go : (s t u : Bool)
        → cond s
        (cond t (cond u (Ok (Set (opening line) (closing line) (equals line))) (Err (malformed NoEquals (length line)))) (Err (malformed NoClosingQuote (length line))))
        (Err (malformed NoOpeningQuote (opening line)))
        ≡ Ok (Get o c)
        → A
    go true true true h = absurd (let z : ◌≡◌ {A = ℕ} 0 1 = cc in omega arith)
    go true true false h = never_get (malformed NoEquals (length line)) o c h
    go true false u h = never_get (malformed NoClosingQuote (length line)) o c h
    go false t u h = never_get (malformed NoOpeningQuote (opening line)) o c h

pub get_ordered : (line : List ℕ) (o c : ℕ) → shape line ≡ Ok (Get o c) → Between line o c
unfolding shape
get_ordered line o c h = go (ltb line_limit (length line)) (is_set line) (is_get line) h
  where
    go : (a b d : Bool)
        → cond a (Err (malformed Overrun line_limit)) (cond b (quoted line (set_shape line)) (cond d (quoted line (get_shape line)) (Err (malformed NoVerb 0)))) ≡ Ok (Get o c)
        → Between line o c
    go true b d h = never_get (malformed Overrun line_limit) o c h
    go false true d h = set_gets line o c h
    go false false true h = get_told line o c (quotes line) refl h
    go false false false h = never_get (malformed NoVerb 0) o c h
