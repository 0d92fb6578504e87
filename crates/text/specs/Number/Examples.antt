-- Worked texts of numbers, computed by the definitions themselves.
use Rattle.std.specs.Prelude.{refl, List, [], ◌∷◌, ℕ, Option, Some, None}
use Rattle.text.specs.Digits.{is_digit, all_digits, read_on, number_of}
use Rattle.text.specs.Number.{number_form, read_number}
use Rattle.text.specs.Every.{every}
use Rattle.text.specs.Switch.Examples.{Gives}

-- numbers of one to five digits, and texts that are none
abbrev numbers_read_cases : List (List ℕ × Option ℕ)
numbers_read_cases =
    (52 ∷ 51 ∷ 50 ∷ 48 ∷ 48 ∷ [], Some 43200) ∷  -- `43200`
    (48 ∷ 48 ∷ 48 ∷ 48 ∷ 49 ∷ [], Some 1) ∷  -- `00001`
    (48 ∷ [], Some 0) ∷  -- `0`
    (48 ∷ 48 ∷ 48 ∷ 48 ∷ 48 ∷ 49 ∷ [], None) ∷  -- `000001`
    (45 ∷ 48 ∷ [], None) ∷  -- `-0`
    ([], None) ∷  -- nothing
    []

pub numbers-read : Gives (read_number 5) numbers_read_cases
unfolding is_digit all_digits every read_on number_of number_form read_number
numbers-read = refl
