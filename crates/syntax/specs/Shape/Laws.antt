-- Laws of a line's shape: where the parts of a set line stand, and the shape of a line that is put together.
use Rattle.std.specs.Prelude.{◌≡◌, Bool, cond, List, [], ◌∷◌, ◌++◌, ℕ, ◌+◌, ◌≤◌, ◌<◌, eqb, get_or, Result, Ok, Err}
use Rattle.std.proofs.Math.Path.{refl}
use Rattle.std.proofs.Common.{◌∙◌, append_assoc, arith, length-append}
use Rattle.std.proofs.Math.Bool.{true, false}
use borrow.Author.Tests.{ltb-true, ltb-false, lt-ltb, le-ltb}
use Rattle.std.proofs.Math.Dec.{ltb}
use Rattle.std.proofs.Math.ListN.{length}
use Rattle.text.specs.Cut.{index_of, part}
use Rattle.text.specs.Cut.From.{from_after, from_joined}
use Rattle.text.specs.Cut.Part.{part-last, part-middle}
use Rattle.room.specs.Label.Match.{same_refl}
use Rattle.syntax.specs.Cause.{malformed}
use Rattle.syntax.specs.Shape.{line_limit, is_set, is_get, opening, closing, equals, get_shape, set_shape, quoted, shape}
use Rattle.syntax.specs.declared.cause.Cause.{Cause}
use Rattle.syntax.specs.declared.cause.Cause.TheVariants.{Overrun, NoVerb, NoOpeningQuote, NoClosingQuote, NoEquals}
use Rattle.syntax.specs.declared.shape.Shape.{Shape}
use Rattle.syntax.specs.declared.cause.Malformed.{Malformed}
use Rattle.syntax.specs.declared.shape.Shape.TheVariants.{Set}

-- ---- what a set line's shape tells

-- the places are in order, and there are at least two bytes before the opening quote
pub record Ordered (line : List ℕ) (o c e : ℕ) : Type 0 where
  pub verb : 2 ≤ o
  pub label : o < c
  pub indices : c < e
  pub ends : e < length line
  pub short : length line ≤ 64

never_malformed {ℓ} : {A : Type ℓ} (x : Cause) (n o c e : ℕ) → Err (malformed x n) ≡ Ok (Set o c e) → A
never_malformed x n o c e h = absurd (let z : ◌≡◌ {A = ℕ} 0 1 = cc in omega arith)

pub after-verb : (line : List ℕ) → 2 ≤ opening line
unfolding opening
after-verb line = go (eqb (get_or line 2 0) 0x20)
  where
    go : (b : Bool) → 2 ≤ cond b 3 2
    go true = omega arith
    go false = omega arith

set_told : (line : List ℕ) (o c e : ℕ) → length line ≤ 64 → set_shape line ≡ Ok (Set o c e) → Ordered line o c e
unfolding set_shape closing equals
set_told line o c e s h = go (ltb (equals line) (length line)) refl h
  where
    go : (b : Bool) → ltb (equals line) (length line) ≡ b → cond b (Ok (Set (opening line) (closing line) (equals line))) (Err (malformed NoEquals (length line))) ≡ Ok (Set o c e)
        → Ordered line o c e
    go true t h =
        let p : opening line ≡ o = cc in
        let q : closing line ≡ c = cc in
        let r : equals line ≡ e = cc in
        let l = ltb-true (equals line) (length line) t in
        let v = after-verb line in
        let behind : opening line + 1 ≤ closing line = from_after 0x22 (opening line + 1) line in
        let divided : closing line + 1 ≤ equals line = from_after 0x3D (closing line + 1) line in
        record { verb = omega arith; label = omega arith; indices = omega arith; ends = omega arith; short = s }
    go false t h = never_malformed NoEquals (length line) o c e h

quoted-told : (line : List ℕ) (s : Result Shape Malformed) (o c e : ℕ) → quoted line s ≡ Ok (Set o c e) → s ≡ Ok (Set o c e)
unfolding quoted
quoted-told line s o c e h = go (eqb (get_or line (opening line) 0) 0x22) (ltb (closing line) (length line)) h
  where
    go : (a b : Bool) → cond a (cond b s (Err (malformed NoClosingQuote (length line)))) (Err (malformed NoOpeningQuote (opening line))) ≡ Ok (Set o c e) → s ≡ Ok (Set o c e)
    go true true h = h
    go true false h = never_malformed NoClosingQuote (length line) o c e h
    go false b h = never_malformed NoOpeningQuote (opening line) o c e h

never_set {ℓ} : {A : Type ℓ} (line : List ℕ) (o c e : ℕ) → get_shape line ≡ Ok (Set o c e) → A
unfolding get_shape
never_set line o c e h = absurd (let z : ◌≡◌ {A = ℕ} 0 1 = cc in omega arith)

pub set_ordered : (line : List ℕ) (o c e : ℕ) → shape line ≡ Ok (Set o c e) → Ordered line o c e
unfolding shape line_limit
set_ordered line o c e h = go (ltb 64 (length line)) (is_set line) (is_get line) refl h
  where
    go : (a b d : Bool) → ltb 64 (length line) ≡ a
        → cond a (Err (malformed Overrun 64)) (cond b (quoted line (set_shape line)) (cond d (quoted line (get_shape line)) (Err (malformed NoVerb 0)))) ≡ Ok (Set o c e)
        → Ordered line o c e
    go true b d t h = never_malformed Overrun 64 o c e h
    go false true d t h = set_told line o c e (ltb-false 64 (length line) t) (quoted-told line (set_shape line) o c e h)
    go false false true t h = never_set line o c e (quoted-told line (get_shape line) o c e h)
    go false false false t h = never_malformed NoVerb 0 o c e h

-- ---- a set line put together

-- without a space: label l, index part i and value text w; the label has no quote, and the index part no `=`
pub record SetLine (line l i w : List ℕ) : Type 0 where
  pub bytes : line ≡ 0x53 ∷ 0x41 ∷ 0x22 ∷ (l ++ (0x22 ∷ (i ++ (0x3D ∷ w))))
  pub unquoted : index_of 0x22 l ≡ length l
  pub undivided : index_of 0x3D i ≡ length i

module _ (line l i w : List ℕ) (h : SetLine line l i w) where
  pub set_line_length : length line ≡ 5 + length l + length i + length w
  set_line_length = rw h.bytes (simp length-append (omega arith))

  -- what stands before the index part, and before the value text
  abbrev named : List ℕ
  named = 0x53 ∷ 0x41 ∷ 0x22 ∷ (l ++ (0x22 ∷ []))

  abbrev front : List ℕ
  front = named ++ (i ++ (0x3D ∷ []))

  named-length : length named ≡ 3 + length l + 1
  named-length = simp length-append (omega arith)

  front_length : length front ≡ 3 + length l + 1 + length i + 1
  front_length = simp length-append (omega arith)

  by_name : line ≡ named ++ (i ++ (0x3D ∷ w))
  by_name = h.bytes ∙ simp append_assoc

  by_front : line ≡ front ++ w
  by_front = by_name ∙ simp append_assoc

  opens : opening line ≡ 2
  unfolding opening
  opens = rw h.bytes

  pub set_line_closes : closing line ≡ 3 + length l
  unfolding closing
  set_line_closes = rw (opens, h.bytes) (from_joined 0x22 (0x53 ∷ 0x41 ∷ 0x22 ∷ []) l (i ++ (0x3D ∷ w)) 3 refl h.unquoted)

  pub set_line_divides : equals line ≡ 3 + length l + 1 + length i
  unfolding equals
  set_line_divides = rw (set_line_closes, by_name) (from_joined 0x3D named i w (3 + length l + 1) named-length h.undivided)

  begins : is_set line ≡ true
  unfolding is_set
  begins = rw h.bytes (same_refl (0x53 ∷ 0x41 ∷ []))

  quote_stands : eqb (get_or line 2 0) 0x22 ≡ true
  quote_stands = rw h.bytes

  pub set_line_shape : length line ≤ 64 → shape line ≡ Ok (Set 2 (3 + length l) (3 + length l + 1 + length i))
  unfolding shape line_limit quoted set_shape
  set_line_shape s =
      let n = set_line_length in
      let a : ltb 64 (length line) ≡ false = le-ltb 64 (length line) s in
      let b : ltb (3 + length l) (length line) ≡ true = lt-ltb (3 + length l) (length line) (omega arith) in
      let d : ltb (3 + length l + 1 + length i) (length line) ≡ true = lt-ltb (3 + length l + 1 + length i) (length line) (omega arith) in
      rw (a, begins, opens, quote_stands, set_line_closes, b, set_line_divides, d)

  pub set_line_label : part line (2 + 1) (3 + length l) ≡ l
  set_line_label = rw h.bytes (part-middle (0x53 ∷ 0x41 ∷ 0x22 ∷ []) l (0x22 ∷ (i ++ (0x3D ∷ w))) 3 (3 + length l) refl refl)

  pub set_line_indices : part line (3 + length l + 1) (3 + length l + 1 + length i) ≡ i
  set_line_indices = rw by_name (part-middle named i (0x3D ∷ w) (3 + length l + 1) (3 + length l + 1 + length i) named-length refl)

  pub set_line_text : part line (3 + length l + 1 + length i + 1) (length line) ≡ w
  set_line_text = rw by_front (part-last front w (3 + length l + 1 + length i + 1) (length (front ++ w)) front_length refl)
