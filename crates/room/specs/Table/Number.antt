-- The number of a table: 0 where it is sound, and only there.
use Rattle.std.specs.Prelude.{◌≡◌, true, false, List, ℕ}
use Rattle.std.proofs.Common.{sym, ◌∙◌}
use Rattle.room.specs.Refusal.Laws.{test_passed, test_refused, passed_test}
use Rattle.room.specs.Table.{sound, table_number}

module _ (t : List ℕ) where
  pub table_passed : sound t ≡ true → table_number t ≡ 0
  unfolding table_number
  table_passed s = test_passed (sound t) 1 s

  pub table_refused : sound t ≡ false → table_number t ≡ 1
  unfolding table_number
  table_refused s = test_refused (sound t) 1 s

  pub passed_table : table_number t ≡ 0 → sound t ≡ true
  unfolding table_number
  passed_table e = passed_test (sound t) 0 e

-- code asked for the number, and went on where it was 0
pub table_held : (t : List ℕ) (n : ℕ) → n ≡ table_number t → n ≡ 0 → sound t ≡ true
table_held t n e z = passed_table t (sym e ∙ z)
