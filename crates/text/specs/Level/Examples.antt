-- Worked texts of levels, each computed by the definitions themselves.
use Rattle.std.specs.Prelude.{refl, List, [], ◌∷◌, ℕ, ℤ, pos, negsuc, Option, Some, None}
use Rattle.text.specs.Digits.{is_digit, digits_within, digits}
use Rattle.text.specs.Switch.Examples.{Gives}
use Rattle.text.specs.Level.{signed, level_tenth, level_point, level_more, level_whole, read_level, sign_text, tenth_text, short_tenth_text, whole_text, level_text}

-- levels, and texts that are none
abbrev levels_read_cases : List (List ℕ × Option ℤ)
levels_read_cases =
    (45 ∷ 52 ∷ [], Some (negsuc 39)) ∷  -- `-4`
    (45 ∷ 48 ∷ 52 ∷ [], Some (negsuc 39)) ∷  -- `-04`
    (45 ∷ 48 ∷ [], Some (pos 0)) ∷  -- `-0`
    (45 ∷ 48 ∷ 48 ∷ 46 ∷ 48 ∷ [], Some (pos 0)) ∷  -- `-00.0`
    (49 ∷ 53 ∷ [], Some (pos 150)) ∷  -- `15`
    (49 ∷ 53 ∷ 46 ∷ 49 ∷ [], Some (pos 151)) ∷  -- `15.1`
    (45 ∷ 48 ∷ 46 ∷ 53 ∷ [], Some (negsuc 4)) ∷  -- `-0.5`
    (45 ∷ 54 ∷ 48 ∷ 46 ∷ 53 ∷ [], Some (negsuc 604)) ∷  -- `-60.5`
    (46 ∷ 53 ∷ [], None) ∷  -- `.5`
    (51 ∷ 46 ∷ [], None) ∷  -- `3.`
    (43 ∷ 51 ∷ [], None) ∷  -- `+3`
    (45 ∷ [], None) ∷  -- `-`
    (51 ∷ 46 ∷ 48 ∷ 48 ∷ [], None) ∷  -- `3.00`
    (49 ∷ 48 ∷ 48 ∷ [], None) ∷  -- `100`
    ([], None) ∷  -- nothing
    []

pub levels_read : Gives read_level levels_read_cases
unfolding is_digit signed level_tenth level_point level_more level_whole read_level
levels_read = refl

-- levels in their shortest text
abbrev levels_written_cases : List (ℤ × List ℕ)
levels_written_cases =
    (negsuc 39, 45 ∷ 52 ∷ []) ∷  -- `-4`
    (pos 5, 48 ∷ 46 ∷ 53 ∷ []) ∷  -- `0.5`
    (negsuc 4, 45 ∷ 48 ∷ 46 ∷ 53 ∷ []) ∷  -- `-0.5`
    (pos 0, 48 ∷ []) ∷  -- `0`
    (pos 120, 49 ∷ 50 ∷ []) ∷  -- `12`
    (negsuc 604, 45 ∷ 54 ∷ 48 ∷ 46 ∷ 53 ∷ []) ∷  -- `-60.5`
    []

pub levels_written : Gives level_text levels_written_cases
unfolding digits_within digits sign_text tenth_text short_tenth_text whole_text level_text
levels_written = refl
