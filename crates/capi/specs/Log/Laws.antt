-- A law of the log call for C.
use Rattle.std.specs.Prelude.{◌≡◌, refl, false, List, [], ◌∷◌, ℕ}
use Rattle.std.proofs.Common.{sym, ap}
use Rattle.room.specs.Table.{sound}
use Rattle.line_log.specs.LogPart.Showing.{no_table}
use Rattle.capi.specs.Log.{part_told, log_answer}

-- a table that is not sound: three zeros
pub answer-unsound : (t line : List ℕ) → sound t ≡ false → log_answer t line ≡ 0 ∷ 0 ∷ 0 ∷ []
unfolding log_answer part_told
answer-unsound t line s = sym (ap part_told (no_table t line false (sym s) refl))
