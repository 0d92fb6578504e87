-- The shape of a line: verb, perhaps a space, label between quotes, index part and, in a set line, `=` and the value text.
pub mod Causes
pub mod Getting
pub mod Laws
pub mod Quotes
pub mod Reading
use Rattle.std.specs.Prelude.{Bool, cond, List, [], ◌∷◌, ℕ, ◌+◌, eqb, ltb, length, get_or, take, Result, Ok, Err}
use Rattle.text.specs.Cut.{first_from}
use Rattle.room.specs.Label.{same}
use Rattle.syntax.specs.Cause.{malformed}
use Rattle.syntax.specs.declared.cause.Cause.TheVariants.{Overrun, NoVerb, NoOpeningQuote, NoClosingQuote, NoEquals}
use Rattle.syntax.specs.declared.shape.Shape.{Shape}
use Rattle.syntax.specs.declared.cause.Malformed.{Malformed}
use Rattle.syntax.specs.declared.shape.Shape.TheVariants.{Get, Set}

-- a line has at most 64 bytes
unfoldable pub line_limit : ℕ
line_limit = 64

-- the line begins with `SA`, with `GA`
unfoldable pub is_set : List ℕ → Bool
is_set line = same (take 2 line) (0x53 ∷ 0x41 ∷ [])

unfoldable pub is_get : List ℕ → Bool
is_get line = same (take 2 line) (0x47 ∷ 0x41 ∷ [])

-- where the opening quote should stand: behind the verb, or behind one space after it
unfoldable pub opening : List ℕ → ℕ
opening line = cond (eqb (get_or line 2 0) 0x20) 3 2

-- the next quote after the opening one
unfoldable pub closing : List ℕ → ℕ
closing line = first_from 0x22 (opening line + 1) line

-- the first `=` after the closing quote
unfoldable pub equals : List ℕ → ℕ
equals line = first_from 0x3D (closing line + 1) line

-- from the two quotes on: a get line's index part runs to the end, a set line's to the first `=`
unfoldable pub get_shape : List ℕ → Result Shape Malformed
get_shape line = Ok (Get (opening line) (closing line))

unfoldable pub set_shape : List ℕ → Result Shape Malformed
set_shape line = cond (ltb (equals line) (length line)) (Ok (Set (opening line) (closing line) (equals line))) (Err (malformed NoEquals (length line)))

-- a quote where it should stand, and another one behind it; the second one is missed at the line's end
unfoldable pub quoted : List ℕ → Result Shape Malformed → Result Shape Malformed
quoted line shape =
    cond (eqb (get_or line (opening line) 0) 0x22)
    (cond (ltb (closing line) (length line)) shape (Err (malformed NoClosingQuote (length line))))
    (Err (malformed NoOpeningQuote (opening line)))

-- at most 64 bytes; the verb in capitals, SA or GA; at most one space; a quote, and a second one; for SA the `=` after it. Any other line is malformed: the first of these
-- that it lacks is the cause, and the place is the byte of the line where that shows
unfoldable pub shape : List ℕ → Result Shape Malformed
shape line =
    cond (ltb line_limit (length line)) (Err (malformed Overrun line_limit))
    (cond (is_set line) (quoted line (set_shape line))
    (cond (is_get line) (quoted line (get_shape line)) (Err (malformed NoVerb 0))))
