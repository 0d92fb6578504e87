-- The label that a line means, for the log, as a part of the table or of the line.
pub mod Laws
pub mod Lending
use Rattle.std.specs.Prelude.{List, ℕ, ◌+◌, Option, Some, None}
use Rattle.std.specs.Borrow.{Bor}
use Rattle.text.specs.Cut.{part}
use Rattle.line_log.specs.declared.part.LogPart.{LogPart}
use Rattle.line_log.specs.declared.part.LogPart.TheVariants.{Table, Line}
use Rattle.line_log.specs.LogPart.{log_part}

-- a part of lent bytes: the block that it lies in, its place there, and its bytes
pub record Part : Type 0 where
  pub block : ℕ
  pub at : ℕ
  pub bytes : List ℕ

abbrev pub placed : Bor (List ℕ) → Part
placed s = record { block = s.ref_ptr.0; at = s.ref_ptr.1; bytes = s.now }

-- the part of s from place a up to place e
unfoldable pub part_of : Bor (List ℕ) → ℕ → ℕ → Part
part_of s a e = record { block = s.ref_ptr.0; at = a + s.ref_ptr.1; bytes = part s.now a e }

unfoldable pub part_shown : (table line : Bor (List ℕ)) → Option LogPart → Part
part_shown table line (Some (Table a e)) = part_of table a e
part_shown table line (Some (Line a e)) = part_of line a e
part_shown table line None = part_of line 0 0

-- the part of the table or of the line that the log shows
unfoldable pub log_label : (table line : Bor (List ℕ)) → Part
log_label table line = part_shown table line (log_part table.now line.now)
