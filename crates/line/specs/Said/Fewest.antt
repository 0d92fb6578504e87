-- The two kinds of line that set a routing word: how long each is, that a line for one output is shorter than one for the word, and two of them longer.
use Rattle.std.specs.Prelude.{◌≡◌, true, List, [], ◌∷◌, ◌++◌, ℕ, ◌+◌, ◌≤◌, ◌<◌, ℤ, nat_abs, Some}
use Rattle.std.proofs.Math.Path.{ap}
use Rattle.std.proofs.Common.{arith, length-append}
use Rattle.std.proofs.Math.ListN.{length}
use Rattle.text.specs.Digits.{digits}
use Rattle.text.specs.Digits.Laws.{some_digits}
use Rattle.text.specs.Digits.Value.{digits-short}
use Rattle.text.specs.Switch.Laws.{switch-length}
use Rattle.text.specs.Word.{bit}
use Rattle.text.specs.Word.Text.{word-length}
use Rattle.catalogue.specs.Catalogue.{known_layout}
use Rattle.catalogue.specs.Groups.{groups_of}
use Rattle.catalogue.specs.Groups.Laws.{two_singles, two_output}
use Rattle.catalogue.specs.Catalogue.Routed.{routed-indices}
use Rattle.catalogue.specs.declared.groups.Group.TheVariants.{Single, Pair}
use Rattle.catalogue.specs.declared.groups.Groups.TheVariants as groups
use Rattle.catalogue.specs.declared.groups.Part.TheVariants.{Whole, Output}
use Rattle.catalogue.specs.declared.row.Indices.TheVariants.{TwoGroups}
use Rattle.catalogue.specs.declared.row.Kind.{Kind}
use Rattle.catalogue.specs.declared.row.Kind.TheVariants.{Word}
use Rattle.room.specs.Label.{label}
use Rattle.values.specs.Parameters.{parameters_of, parameter_at}
use Rattle.values.specs.Parameters.Named.{word-routed}
use Rattle.values.specs.declared.parameter.Parameter.{Parameter}
use Rattle.spelling.specs.IndexText.{index_text}
use Rattle.spelling.specs.IndexText.Laws.{number-group, pair_group, two_groups_lem}
use Rattle.spelling.specs.Line.{line_for}
use Rattle.spelling.specs.Line.Laws.{line_length}
use Rattle.spelling.specs.Text.{part_text}
use Rattle.spelling.specs.Text.Laws.{word-text}
use Rattle.spelling.specs.Text.Parts.{whole_text_lem, output_text}

two_length : (a b : ℕ) → length (index_text (groups_of (TwoGroups a b) Whole)) ≡ 2 + length (digits a) + length (digits b)
two_length a b = rw (two_singles a b, two_groups_lem (Single a) (Single b), number-group a, number-group b) (omega (arith, length-append (digits a) (0x3E ∷ digits b)))

pair_length : (c a o : ℕ) → length (index_text (groups.TwoGroups (Single c) (Pair a o))) ≡ 5 + length (digits c) + length (digits a) + length (digits o)
pair_length c a o = rw (two_groups_lem (Single c) (Pair a o), number-group c, pair_group a o) (omega (
  arith,
  length-append (digits c) (0x3E ∷ 0x28 ∷ (digits a ++ (0x2C ∷ (digits o ++ (0x29 ∷ []))))),
  length-append (digits a) (0x2C ∷ (digits o ++ (0x29 ∷ []))),
  length-append (digits o) (0x29 ∷ []),
))

one_digit : (a : ℕ) → a < 10 → length (digits a) ≡ 1
one_digit a h = omega (arith, digits-short a 1 (omega arith) h, some_digits a)

word-indices : (i : ℕ) → length (index_text (groups_of (TwoGroups 3 i) Whole)) ≡ 3 + length (digits i)
word-indices i = omega (arith, two_length 3 i, one_digit 3 (omega arith))

pair_indices : (i o : ℕ) → length (index_text (groups_of (TwoGroups 3 i) (Output o))) ≡ 6 + length (digits i) + length (digits o)
pair_indices i o = omega (arith, ap (λ g. length (index_text g)) (two_output 3 i o), pair_length 4 i o, one_digit 4 (omega arith))

whole_word : (k : Kind) (x : ℤ) → k ≡ Word → length (part_text k Whole x) ≡ 8
whole_word k x e = rw (e, whole_text_lem Word x, word-text x) (word-length (nat_abs x))

one_letter : (k : Kind) (o : ℕ) (x : ℤ) → length (part_text k (Output o) x) ≡ 1
one_letter k o x = rw (output_text k o x) (switch-length (bit o (nat_abs x)))

module _ (t : List ℕ) (p : Parameter) (known : known_layout p.owner.layout ≡ true) (own : parameter_at (parameters_of p.owner) p.number ≡ Some p)
    (word : p.row.kind ≡ Word) where
  -- the word's input
  unfoldable pub input : ℕ
  input = (word-routed p.owner p.number p known own word).input + 1

  indices : p.row.indices ≡ TwoGroups 3 ((word-routed p.owner p.number p known own word).input + 1)
  indices = routed-indices p.owner.layout p.row (word-routed p.owner p.number p known own word)

  -- `SA`, the label between quotes, `>3>`, the input, `=` and eight digits
  pub word_line : (x : ℤ) → length (line_for 0x53 t p Whole x) ≡ 16 + length (label t p.owner) + length (digits input)
  unfolding input
  word_line x =
      let i = ap (λ j. length (index_text (groups_of j Whole))) indices in
      omega (arith, line_length 0x53 t p Whole x, i, word-indices ((word-routed p.owner p.number p known own word).input + 1), whole_word p.row.kind x word)

  -- `SA`, the label between quotes, `>4>(`, the input, `,`, the output, `)=` and a letter
  pub pair_line : (o : ℕ) (x : ℤ) → length (line_for 0x53 t p (Output o) x) ≡ 12 + length (label t p.owner) + length (digits input) + length (digits o)
  unfolding input
  pair_line o x =
      let i = ap (λ j. length (index_text (groups_of j (Output o)))) indices in
      omega (arith, line_length 0x53 t p (Output o) x, i, pair_indices ((word-routed p.owner p.number p known own word).input + 1) o, one_letter p.row.kind o x)

  -- the line for one output is shorter than the word's
  pub pair_shorter : (o : ℕ) (x y : ℤ) → o ≤ 32 → length (line_for 0x53 t p (Output o) x) < length (line_for 0x53 t p Whole y)
  pair_shorter o x y m = omega (arith, pair_line o x, word_line y, digits-short o 2 (omega arith) (omega arith))

  -- the lines for any two outputs, each with its 0D, are longer than the word's
  pub pairs-longer : (o q : ℕ) (x y z : ℤ)
      → length (line_for 0x53 t p Whole z) + 1 < (length (line_for 0x53 t p (Output o) x) + 1) + (length (line_for 0x53 t p (Output q) y) + 1)
  pairs-longer o q x y z = omega (arith, pair_line o x, pair_line q y, word_line z, some_digits input)

  -- every word's line is as long, and every line for the same output
  pub words-alike : (x y : ℤ) → length (line_for 0x53 t p Whole x) ≡ length (line_for 0x53 t p Whole y)
  words-alike x y = omega (arith, word_line x, word_line y)

  pub pairs-alike : (o : ℕ) (x y : ℤ) → length (line_for 0x53 t p (Output o) x) ≡ length (line_for 0x53 t p (Output o) y)
  pairs-alike o x y = omega (arith, pair_line o x, pair_line o y)
