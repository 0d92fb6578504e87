-- The log call for C: it tells the part that shows the label by three numbers.
pub mod Laws
pub mod Telling
use Rattle.std.specs.Prelude.{List, [], ◌∷◌, ℕ, ◌-◌, Option, Some, None}
use Rattle.line_log.specs.LogPart.{log_part}
use Rattle.line_log.specs.declared.part.LogPart.{LogPart}
use Rattle.line_log.specs.declared.part.LogPart.TheVariants.{Table, Line}

-- 1 for the table or 0 for the line, the start of the part, and its length
unfoldable pub part_told : Option LogPart → List ℕ
part_told (Some (Table a e)) = 1 ∷ a ∷ (e - a) ∷ []
part_told (Some (Line a e)) = 0 ∷ a ∷ (e - a) ∷ []
part_told None = 0 ∷ 0 ∷ 0 ∷ []

-- the whole call; a table that is not sound is refused with three zeros, the empty part at the line's start
unfoldable pub log_answer : (table line : List ℕ) → List ℕ
log_answer t line = part_told (log_part t line)
