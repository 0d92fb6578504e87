-- What an answer's number says, in words: a block of 64 bytes, which C can read as a string.
pub mod Telling
use Rattle.std.specs.Prelude.{List, [], ◌∷◌, ◌++◌, ℕ, ◌-◌, length, get_or, replicate}
use Rattle.text.specs.Byte.{bytes}

-- words, and zero bytes behind them
unfoldable pub padded : List ℕ → List ℕ
padded words = words ++ replicate (64 - length words) 0

-- the words of the numbers 0, 1 and so on
abbrev pub words : List (List ℕ)
words =
    bytes "accepted" ∷
    bytes "the table is not sound" ∷
    bytes "values: wrong length, or one that is not permitted" ∷
    bytes "the reply buffer has under 64 bytes" ∷
    bytes "the port claims over 64 held bytes" ∷
    bytes "selection: wrong length, or a byte over 1" ∷
    bytes "wanted: wrong length, or a chosen entry is not permitted" ∷
    bytes "a wanted change is one that no line can make" ∷
    bytes "the list does not fit its buffer" ∷
    bytes "no such module or row, or a value that it does not take" ∷
    bytes "connections: wrong size, counts or number, or already so" ∷ []

abbrev pub no_words : List ℕ
no_words = bytes "no answer has this number"

unfoldable pub refusal_text : (number : ℕ) → List ℕ
refusal_text n = padded (get_or words n no_words)
