-- The number of a value list: 0 where it is right, and only there.
use Rattle.std.specs.Prelude.{◌≡◌, true, false, List, ℤ}
use Rattle.room.specs.Refusal.Laws.{test_passed, test_refused, passed_test}
use Rattle.values.specs.Room.{Room}
use Rattle.values.specs.Values.{values_number, values_sound}

module _ (r : Room) (vs : List ℤ) where
  pub values_passed : values_sound r vs ≡ true → values_number r vs ≡ 0
  unfolding values_number
  values_passed h = test_passed (values_sound r vs) 2 h

  pub values_refused : values_sound r vs ≡ false → values_number r vs ≡ 2
  unfolding values_number
  values_refused h = test_refused (values_sound r vs) 2 h

  pub passed_values : values_number r vs ≡ 0 → values_sound r vs ≡ true
  unfolding values_number
  passed_values e = passed_test (values_sound r vs) 1 e
