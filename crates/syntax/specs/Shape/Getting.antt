-- A get line that is put together: its shape, and where its parts stand.
use Rattle.std.proofs.Math.Path.{◌≡◌, refl}
use Rattle.std.proofs.Common.{◌∙◌, append_assoc, arith, length-append}
use Rattle.std.proofs.Math.Bool.{true, false}
use Rattle.std.specs.Prelude.{List, [], ◌∷◌, ◌++◌, ℕ, ◌+◌, ◌≤◌, eqb, get_or, Ok}
use borrow.Author.Tests.{lt-ltb, le-ltb}
use Rattle.std.proofs.Math.Dec.{ltb}
use Rattle.std.proofs.Math.ListN.{length}
use Rattle.text.specs.Cut.{index_of, part}
use Rattle.text.specs.Cut.From.{from_joined}
use Rattle.text.specs.Cut.Part.{part-last, part-middle}
use Rattle.room.specs.Label.Match.{same_not, same_refl}
use Rattle.syntax.specs.Shape.{line_limit, is_set, is_get, opening, closing, get_shape, quoted, shape}
use Rattle.syntax.specs.declared.shape.Shape.TheVariants.{Get}

-- without a space: label l and index part i; the label has no quote
pub record GetLine (line l i : List ℕ) : Type 0 where
  pub bytes : line ≡ 0x47 ∷ 0x41 ∷ 0x22 ∷ (l ++ (0x22 ∷ i))
  pub unquoted : index_of 0x22 l ≡ length l

module _ (line l i : List ℕ) (h : GetLine line l i) where
  pub get_line-length : length line ≡ 4 + length l + length i
  get_line-length = rw h.bytes (simp length-append (omega arith))

  -- what stands before the index part
  abbrev named : List ℕ
  named = 0x47 ∷ 0x41 ∷ 0x22 ∷ (l ++ (0x22 ∷ []))

  named-length : length named ≡ 3 + length l + 1
  named-length = simp length-append (omega arith)

  by_name : line ≡ named ++ i
  by_name = h.bytes ∙ simp append_assoc

  opens : opening line ≡ 2
  unfolding opening
  opens = rw h.bytes

  closes : closing line ≡ 3 + length l
  unfolding closing
  closes = rw (opens, h.bytes) (from_joined 0x22 (0x47 ∷ 0x41 ∷ 0x22 ∷ []) l i 3 refl h.unquoted)

  no_set : is_set line ≡ false
  unfolding is_set
  no_set = rw h.bytes (same_not (0x47 ∷ 0x41 ∷ []) (0x53 ∷ 0x41 ∷ []) (λ q. let z : ◌≡◌ {A = ℕ} 0x47 0x53 = cc in omega arith))

  begins : is_get line ≡ true
  unfolding is_get
  begins = rw h.bytes (same_refl (0x47 ∷ 0x41 ∷ []))

  quote_stands : eqb (get_or line 2 0) 0x22 ≡ true
  quote_stands = rw h.bytes

  pub get_line-shape : length line ≤ 64 → shape line ≡ Ok (Get 2 (3 + length l))
  unfolding shape line_limit quoted get_shape
  get_line-shape s =
      let n = get_line-length in
      let a : ltb 64 (length line) ≡ false = le-ltb 64 (length line) s in
      let b : ltb (3 + length l) (length line) ≡ true = lt-ltb (3 + length l) (length line) (omega arith) in
      rw (a, no_set, begins, opens, quote_stands, closes, b)

  pub get_line-label : part line (2 + 1) (3 + length l) ≡ l
  get_line-label = rw h.bytes (part-middle (0x47 ∷ 0x41 ∷ 0x22 ∷ []) l (0x22 ∷ i) 3 (3 + length l) refl refl)

  pub get_line-indices : part line (3 + length l + 1) (length line) ≡ i
  get_line-indices = rw by_name (part-last named i (3 + length l + 1) (length (named ++ i)) named-length refl)
