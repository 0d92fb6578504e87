-- Rules for the code of the log call: a rule for each part.
use Rattle.std.specs.Prelude.{◌≡◌, List, [], ◌∷◌, ℕ, ◌-◌, Option, Some, None}
use Rattle.std.proofs.Math.Path.{sym, ap}
use Rattle.std.proofs.Common.{◌∙◌}
use Rattle.line_log.specs.LogPart.{log_part}
use Rattle.line_log.specs.Log.Lending.{table_order, line_order}
use Rattle.line_log.specs.declared.part.LogPart.{LogPart}
use Rattle.line_log.specs.declared.part.LogPart.TheVariants.{Table, Line}
use Rattle.capi.specs.Log.{part_told, log_answer}

module _ (t line : List ℕ) (p : Option LogPart) (e : p ≡ log_part t line) where
  answered : part_told p ≡ log_answer t line
  unfolding log_answer
  answered = ap part_told e

  pub log_table : (a b : ℕ) → p ≡ Some (Table a b) → 1 ∷ a ∷ (b - a) ∷ [] ≡ log_answer t line
  unfolding part_told
  log_table a b k = sym (ap part_told k) ∙ answered

  pub log_line : (a b : ℕ) → p ≡ Some (Line a b) → 0 ∷ a ∷ (b - a) ∷ [] ≡ log_answer t line
  unfolding part_told
  log_line a b k = sym (ap part_told k) ∙ answered

  pub log_nothing : p ≡ None → 0 ∷ 0 ∷ 0 ∷ [] ≡ log_answer t line
  unfolding part_told
  log_nothing k = sym (ap part_told k) ∙ answered

pub ruleset telling = (log_table, log_line, log_nothing, table_order, line_order)
