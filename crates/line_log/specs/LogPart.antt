-- Where the label that a line means stands, for the log: in the table or in the line.
pub mod Showing
use Rattle.std.specs.Prelude.{cond, ◌&&◌, List, ℕ, ◌+◌, ◌-◌, ltb, length, Option, Some, None}
use Rattle.room.specs.declared.table.Module.{Module}
use Rattle.text.specs.Cut.{index_of, first_from, part}
use Rattle.room.specs.Label.{bearer}
use Rattle.room.specs.Table.{sound}
use Rattle.line_log.specs.declared.part.LogPart.{LogPart}
use Rattle.line_log.specs.declared.part.LogPart.TheVariants.{Table, Line}

-- the first two quotes of the line
unfoldable pub first_quote : List ℕ → ℕ
first_quote line = index_of 0x22 line

unfoldable pub second_quote : List ℕ → ℕ
second_quote line = first_from 0x22 (first_quote line + 1) line

-- for a text that one module alone bears, its label in the table; for any other, the text in the line
unfoldable pub shown : (start end : ℕ) → Option Module → LogPart
shown start end (Some m) = Table (m.place + 1) (m.place + 1 + (end - start))
shown start end None = Line start end

-- with fewer than two quotes, or a table that is not sound, the empty part at the line's start
unfoldable pub log_part : List ℕ → List ℕ → Option LogPart
log_part t line =
    cond (sound t && ltb (second_quote line) (length line))
    (Some (shown (first_quote line + 1) (second_quote line) (bearer t (part line (first_quote line + 1) (second_quote line)))))
    None
