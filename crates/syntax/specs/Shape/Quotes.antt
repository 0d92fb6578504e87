-- The two quotes of a line, and the rules for the code that finds a line's shape by them.
use Rattle.std.specs.Prelude.{◌≡◌, refl, Bool, true, false, cond, List, ℕ, ◌+◌, ◌<◌, ◌≤◌, eqb, ltb, length, get_or, Result, Ok, Err}
use Rattle.std.proofs.Math.Path.{sym, ap}
use Rattle.std.proofs.Common.{◌∙◌, arith, Fits}
use borrow.Author.Tests.{eq-eqb, ne_eqb, lt-ltb, le-ltb, ltb-true}
use Rattle.std.proofs.Math.ListN.{get_or-eq_default}
use Rattle.std.specs.Int.{w64}
use Rattle.text.specs.Cut.{first_from}
use Rattle.text.specs.Cut.From.{from_after}
use Rattle.syntax.specs.Cause.{malformed}
use Rattle.syntax.specs.Shape.{opening, closing, equals, get_shape, set_shape, quoted}
use Rattle.syntax.specs.declared.cause.Cause.{Cause}
use Rattle.syntax.specs.declared.cause.Cause.TheVariants.{NoOpeningQuote, NoClosingQuote, NoEquals}
use Rattle.syntax.specs.declared.shape.Quotes.{Quotes}
use Rattle.syntax.specs.declared.shape.Shape.{Shape}
use Rattle.syntax.specs.declared.cause.Malformed.{Malformed}
use Rattle.syntax.specs.declared.shape.Shape.TheVariants.{Get, Set}

abbrev pub places : ℕ → ℕ → Quotes
places o c = record { opening = o; closing = c }

unfoldable pub quotes : List ℕ → Result Quotes Malformed
quotes line =
    cond (eqb (get_or line (opening line) 0) 0x22)
    (cond (ltb (closing line) (length line)) (Ok (places (opening line) (closing line))) (Err (malformed NoClosingQuote (length line))))
    (Err (malformed NoOpeningQuote (opening line)))

-- ---- finding them

pub no_place : (line : List ℕ) (o : ℕ) → o ≡ opening line → length line ≤ o → (m : Malformed) → m ≡ malformed NoOpeningQuote o → Err m ≡ quotes line
unfolding quotes
no_place line o e l m k = rw (k, ← e, get_or-eq_default line 0 l)

pub no_opening : (line : List ℕ) (o : ℕ) → o ≡ opening line → (get_or line o 0 ≡ 0x22 → ⊥) → (m : Malformed) → m ≡ malformed NoOpeningQuote o → Err m ≡ quotes line
unfolding quotes
no_opening line o e n m k = rw (k, ← e, ne_eqb (get_or line o 0) 0x22 n)

module _ (line : List ℕ) (o c : ℕ) (e : o ≡ opening line) (h : get_or line o 0 ≡ 0x22) (f : c ≡ first_from 0x22 (o + 1) line) where
  closes : c ≡ closing line
  unfolding closing
  closes = f ∙ ap (λ n. first_from 0x22 (n + 1) line) e

  pub no_closing : length line ≤ c → (m : Malformed) → m ≡ malformed NoClosingQuote (length line) → Err m ≡ quotes line
  unfolding quotes
  no_closing l m k = rw (k, ← closes, ← e, eq-eqb (get_or line o 0) 0x22 h, le-ltb c (length line) l)

  pub both_quotes : c < length line → Ok (places o c) ≡ quotes line
  unfolding quotes
  both_quotes l = rw (← closes, ← e, eq-eqb (get_or line o 0) 0x22 h, lt-ltb c (length line) l)

pub ruleset quotes-rules = (no_place, no_opening, no_closing, both_quotes)

-- ---- what they tell

-- both are there, one after the other
pub record Between (line : List ℕ) (o c : ℕ) : Type 0 where
  pub opened : opening line ≡ o
  pub closed : closing line ≡ c
  pub ordered : o < c
  pub ends : c < length line
  pub shapes : (s : Result Shape Malformed) → quoted line s ≡ s

never_at {ℓ} : {A : Type ℓ} (x : Cause) (n o c : ℕ) → Err (malformed x n) ≡ Ok (places o c) → A
never_at x n o c h = absurd (let z : ◌≡◌ {A = ℕ} 0 1 = cc in omega arith)

pub quotes-at : (line : List ℕ) (o c : ℕ) → quotes line ≡ Ok (places o c) → Between line o c
unfolding quotes quoted closing
quotes-at line o c h = go (eqb (get_or line (opening line) 0) 0x22) refl (ltb (closing line) (length line)) refl h
  where
    go : (s : Bool) → eqb (get_or line (opening line) 0) 0x22 ≡ s → (t : Bool) → ltb (closing line) (length line) ≡ t
        → cond s (cond t (Ok (places (opening line) (closing line))) (Err (malformed NoClosingQuote (length line)))) (Err (malformed NoOpeningQuote (opening line))) ≡ Ok (places o c)
        → Between line o c
    go true s true t h =
        let e : places (opening line) (closing line) ≡ places o c = cc in
        let p : opening line ≡ o = ap (λ x. x.opening) e in
        let q : closing line ≡ c = ap (λ x. x.closing) e in
        let l = ltb-true (closing line) (length line) t in
        let behind : opening line + 1 ≤ closing line = from_after 0x22 (opening line + 1) line in
        record { opened = p; closed = q; ordered = omega arith; ends = omega arith; shapes = λ x. rw (s, t) }
    go true s false t h = never_at NoClosingQuote (length line) o c h
    go false s t e h = never_at NoOpeningQuote (opening line) o c h

pub quotes-missing : (line : List ℕ) (x : Result Shape Malformed) (m : Malformed) → quotes line ≡ Err m → quoted line x ≡ Err m
unfolding quotes quoted
quotes-missing line x m h = go (eqb (get_or line (opening line) 0) 0x22) (ltb (closing line) (length line)) h
  where
    go : (s t : Bool)
        → cond s (cond t (Ok (places (opening line) (closing line))) (Err (malformed NoClosingQuote (length line)))) (Err (malformed NoOpeningQuote (opening line))) ≡ Err m
        → cond s (cond t x (Err (malformed NoClosingQuote (length line)))) (Err (malformed NoOpeningQuote (opening line))) ≡ Err m
    go true true h = absurd (let z : ◌≡◌ {A = ℕ} 0 1 = cc in omega arith)
    go true false h = cc
    go false t h = cc

-- ---- a get line has the two quotes, a set line a `=` after them too

pub no_quotes : (line : List ℕ) (s : Result Shape Malformed) (m : Malformed) → Err m ≡ quotes line → Err m ≡ quoted line s
no_quotes line s m h = sym (quotes-missing line s m (sym h))

module _ (line : List ℕ) (q : Quotes) (e : Ok q ≡ quotes line) where
  between : Between line q.opening q.closing
  between = quotes-at line q.opening q.closing (sym e)

  pub get_quoted : Ok (Get q.opening q.closing) ≡ quoted line (get_shape line)
  unfolding get_shape
  get_quoted = sym (between.shapes (get_shape line) ∙ rw (between.opened, between.closed))

  -- after either quote there is room to look on
  pub behind_opening : q.opening + 1 ≤ length line
  behind_opening = omega (arith, between.ordered, between.ends)

  pub behind_closing : q.closing + 1 ≤ length line
  behind_closing = omega (arith, between.ends)

  pub behind_opening_fits : length line < 18446744073709551616 → Fits w64 (q.opening + 1)
  behind_opening_fits m = let w = behind_opening in record { fits = omega arith }

  pub behind_closing_fits : length line < 18446744073709551616 → Fits w64 (q.closing + 1)
  behind_closing_fits m = let w = behind_closing in record { fits = omega arith }

  module _ (d : ℕ) (f : d ≡ first_from 0x3D (q.closing + 1) line) where
    divides : equals line ≡ d
    unfolding equals
    divides = ap (λ n. first_from 0x3D (n + 1) line) between.closed ∙ sym f

    pub no_equals : length line ≤ d → (m : Malformed) → m ≡ malformed NoEquals (length line) → Err m ≡ quoted line (set_shape line)
    unfolding set_shape
    no_equals l m k = rw k (sym (between.shapes (set_shape line) ∙ rw (divides, le-ltb d (length line) l)))

    pub has-equals : d < length line → Ok (Set q.opening q.closing d) ≡ quoted line (set_shape line)
    unfolding set_shape
    has-equals l = sym (between.shapes (set_shape line) ∙ rw (divides, lt-ltb d (length line) l, between.opened, between.closed))

pub ruleset get_rules = (no_quotes, get_quoted)

pub ruleset set_rules = (no_quotes, behind_opening, behind_closing, behind_opening_fits, behind_closing_fits, no_equals, has-equals)
