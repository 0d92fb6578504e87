-- How a word is written: digit by digit from the first, each found by a shift.
use Rattle.std.specs.Prelude.{◌≡◌, List, ℕ, ◌+◌, ◌-◌, ◌*◌, ◌/◌, ◌%◌, ◌^◌, ◌≤◌, ◌<◌, length, get_or, set}
use Rattle.std.proofs.Common.{sym, ◌∙◌, arith}
use Rattle.text.specs.Hex.{hex_digit}
use Rattle.text.specs.Hex.Value.{hex_at}
use Rattle.text.specs.Word.{hex_text}
use Rattle.text.specs.Word.Text.{word-length}
use Rattle.text.specs.Written.{Wrote}
use Rattle.text.specs.Written.Laws.{Copied, copy_start, copy_next, copy_end}

pub word-start : (l : List ℕ) (at w : ℕ) → Copied l at (hex_text w) 0 l
word-start l at w = copy_start l at (hex_text w)

digit_at : (w i : ℕ) → i < 8 → hex_digit (w / 2 ^ (28 - 4 * i) % 16) ≡ get_or (hex_text w) i 0
unfolding hex_text
digit_at w i h =
    let e : 4 * (8 - 1 - i) ≡ 28 - 4 * i = omega arith in
    sym (rw e at (hex_at 8 w i h))

pub word_next : (l : List ℕ) (at w i b : ℕ) (m : List ℕ) → Copied l at (hex_text w) i m → i < 8 → b ≡ hex_digit (w / 2 ^ (28 - 4 * i) % 16)
    → Copied l at (hex_text w) (i + 1) (set m (at + i) b)
word_next l at w i b m c h e =
    rw (e ∙ digit_at w i h) (copy_next l at (hex_text w) i m c (omega (arith, word-length w)))

pub word_end : (l : List ℕ) (at w i : ℕ) (m : List ℕ) → Copied l at (hex_text w) i m → 8 ≤ i → Wrote l at (hex_text w) (at + i) m
word_end l at w i m c h = copy_end l at (hex_text w) i m c (omega (arith, word-length w))

-- room for the digit at i
pub digit_room : (l : List ℕ) (at w i : ℕ) (m : List ℕ) → at + length (hex_text w) ≤ length l → Copied l at (hex_text w) i m → i < 8 → at + i < length m
digit_room l at w i m r c h = omega (arith, word-length w, c.long)

pub ruleset word_writing = (word-start, word_next, word_end, digit_room)
