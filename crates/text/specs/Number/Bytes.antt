-- A number text has digits alone.
use Rattle.std.specs.Prelude.{◌≡◌, false, ◌&&◌, List, ◌∷◌, ℕ, ◌<◌, leb, length, Some, None}
use Rattle.std.proofs.Math.Bool.{and-false}
use Rattle.std.proofs.lemmas.Bool.{lt-leb}
use Rattle.text.specs.Cut.{index_of}
use Rattle.text.specs.Cut.Laws.{index_none}
use Rattle.text.specs.Digits.{all_digits, is_digit}
use Rattle.text.specs.Every.{every}
use Rattle.text.specs.Number.{number_form, read_number}
use Rattle.text.specs.Number.Laws.{number-told}

above_nine : (b : ℕ) → 57 < b → is_digit b ≡ false
unfolding is_digit
above_nine b h = rw (lt-leb b 57 h) (and-false (leb 48 b))

below_zero : (b : ℕ) → b < 48 → is_digit b ≡ false
unfolding is_digit
below_zero b h = rw (lt-leb 48 b h)

-- no byte above `9` stands in one
pub number-lacks : (width b : ℕ) (s : List ℕ) (n : ℕ) → 57 < b → read_number width s ≡ Some n → index_of b s ≡ length s
unfolding all_digits
number-lacks width b s n h e = index_none is_digit b s (number-told width s n e).all (above_nine b h)

-- and none below `0`
pub number-lacks_low : (width b : ℕ) (s : List ℕ) (n : ℕ) → b < 48 → read_number width s ≡ Some n → index_of b s ≡ length s
unfolding all_digits
number-lacks_low width b s n h e = index_none is_digit b s (number-told width s n e).all (below_zero b h)

-- so a text that begins with such a byte is no number
pub number-begins : (width b : ℕ) (s : List ℕ) → b < 48 → read_number width (b ∷ s) ≡ None
unfolding read_number number_form all_digits every
number-begins width b s h = rw (below_zero b h, and-false (leb 1 (length (b ∷ s)) && leb (length (b ∷ s)) width))
