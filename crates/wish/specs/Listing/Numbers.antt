-- When the restore call refuses, and with which number: one rule for each.
use Rattle.std.specs.Prelude.{◌≡◌, true, false, List, ℕ, ◌≤◌, ◌<◌, leb, ℤ, length}
use Rattle.std.proofs.Math.Path.{refl}
use Rattle.std.proofs.Common.{◌∙◌, le-leb}
use Rattle.std.proofs.lemmas.Bool.{lt-leb}
use Rattle.room.specs.Refusal.{first_refusal}
use Rattle.room.specs.Refusal.Laws.{all, passes, stops, all_passed, first-append, first_by, first-passed, first_stops, test_passed, test_refused, passed_test}
use Rattle.room.specs.Table.{sound}
use Rattle.room.specs.Table.Number.{passed_table, table_passed, table_refused}
use Rattle.values.specs.Room.{Room}
use Rattle.values.specs.Values.{values_sound}
use Rattle.values.specs.Values.Number.{passed_values, values_passed, values_refused}
use Rattle.wish.specs.Target.{Wish, selection_right, wanted_right}
use Rattle.wish.specs.Listing.{Admitted, Change, changes, listing, all_reachable, selection_number, wanted_number, reach_number, space_number, tests, list_tests, test_number, list_number, restore_number}

-- ---- the number of each test

module _ (t selection : List ℕ) where
  pub selection_passed : selection_right t selection ≡ true → selection_number t selection ≡ 0
  unfolding selection_number
  selection_passed c = test_passed (selection_right t selection) 5 c

  pub selection_refused : selection_right t selection ≡ false → selection_number t selection ≡ 5
  unfolding selection_number
  selection_refused c = test_refused (selection_right t selection) 5 c

  pub passed_selection : selection_number t selection ≡ 0 → selection_right t selection ≡ true
  unfolding selection_number
  passed_selection e = passed_test (selection_right t selection) 4 e

module _ (r : Room) (selection : List ℕ) (ws : List ℤ) where
  pub wanted_passed : wanted_right r selection ws ≡ true → wanted_number r selection ws ≡ 0
  unfolding wanted_number
  wanted_passed d = test_passed (wanted_right r selection ws) 6 d

  pub wanted_refused : wanted_right r selection ws ≡ false → wanted_number r selection ws ≡ 6
  unfolding wanted_number
  wanted_refused d = test_refused (wanted_right r selection ws) 6 d

  pub passed_wanted : wanted_number r selection ws ≡ 0 → wanted_right r selection ws ≡ true
  unfolding wanted_number
  passed_wanted e = passed_test (wanted_right r selection ws) 5 e

module _ (t : List ℕ) (cs : List Change) where
  pub reach_passed : all_reachable t cs ≡ true → reach_number t cs ≡ 0
  unfolding reach_number
  reach_passed r = test_passed (all_reachable t cs) 7 r

  pub reach_refused : all_reachable t cs ≡ false → reach_number t cs ≡ 7
  unfolding reach_number
  reach_refused r = test_refused (all_reachable t cs) 7 r

module _ (t : List ℕ) (room : ℕ) (cs : List Change) where
  pub space_passed : length (listing t cs) ≤ room → space_number t room cs ≡ 0
  unfolding space_number
  space_passed h = test_passed (leb (length (listing t cs)) room) 8 (le-leb (length (listing t cs)) room h)

  pub space_refused : room < length (listing t cs) → space_number t room cs ≡ 8
  unfolding space_number
  space_refused h = test_refused (leb (length (listing t cs)) room) 8 (lt-leb (length (listing t cs)) room h)

-- ---- 1, 2, 5 and 6

module _ (w : Wish) where
  pub test_first : test_number w ≡ first_refusal (tests w)
  unfolding test_number
  test_first = refl

  -- a wish that passes all four is admitted
  pub test_admits : test_number w ≡ 0 → Admitted w
  unfolding test_number
  test_admits h =
      let a = all_passed _ _ h in
      let b = all_passed _ _ a.1 in
      let c = all_passed _ _ b.1 in
      let d = all_passed _ _ c.1 in
      record {
        table = passed_table w.room.table a.0;
        present = passed_values w.room w.present b.0;
        selection = passed_selection w.room.table w.selection c.0;
        wanted = passed_wanted w.room w.selection w.wanted d.0;
      }

  pub admits_test : Admitted w → test_number w ≡ 0
  unfolding test_number
  admits_test a =
      first_by
      (passes (table_passed w.room.table a.table)
      (passes (values_passed w.room w.present a.present)
      (passes (selection_passed w.room.table w.selection a.selection) (passes (wanted_passed w.room w.selection w.wanted a.wanted) all))))

-- ---- 7 and 8: the list of some changes

module _ (t : List ℕ) (room : ℕ) (cs : List Change) where
  pub list-unreachable : all_reachable t cs ≡ false → list_number t room cs ≡ 7
  unfolding list_number
  list-unreachable r = first_by (stops (reach_refused t cs r))

  pub list-long : all_reachable t cs ≡ true → room < length (listing t cs) → list_number t room cs ≡ 8
  unfolding list_number
  list-long r h = first_by (passes (reach_passed t cs r) (stops (space_refused t room cs h)))

  pub list-fits : all_reachable t cs ≡ true → length (listing t cs) ≤ room → list_number t room cs ≡ 0
  unfolding list_number
  list-fits r h = first_by (passes (reach_passed t cs r) (passes (space_passed t room cs h) all))

-- ---- the call: the first of them that applies

module _ (w : Wish) (room : ℕ) where
  pub number-test : (test_number w ≡ 0 → ⊥) → restore_number w room ≡ test_number w
  unfolding restore_number test_number
  number-test h =
      first-append (tests w) (list_tests w.room.table room (changes w)) ∙ first_stops (test_number w) (list_tests w.room.table room (changes w)) h

  pub number-table : sound w.room.table ≡ false → restore_number w room ≡ 1
  unfolding restore_number
  number-table a = first_by (stops (table_refused w.room.table a))

  pub number-present : sound w.room.table ≡ true → values_sound w.room w.present ≡ false → restore_number w room ≡ 2
  unfolding restore_number
  number-present a b = first_by (passes (table_passed w.room.table a) (stops (values_refused w.room w.present b)))

  pub number-selection : sound w.room.table ≡ true → values_sound w.room w.present ≡ true → selection_right w.room.table w.selection ≡ false
      → restore_number w room ≡ 5
  unfolding restore_number
  number-selection a b c =
      first_by
      (passes (table_passed w.room.table a) (passes (values_passed w.room w.present b) (stops (selection_refused w.room.table w.selection c))))

  pub number-wanted : sound w.room.table ≡ true → values_sound w.room w.present ≡ true → selection_right w.room.table w.selection ≡ true
      → wanted_right w.room w.selection w.wanted ≡ false → restore_number w room ≡ 6
  unfolding restore_number
  number-wanted a b c d =
      first_by
      (passes (table_passed w.room.table a)
      (passes (values_passed w.room w.present b)
      (passes (selection_passed w.room.table w.selection c) (stops (wanted_refused w.room w.selection w.wanted d)))))

  -- none of these applies
  pub number-list : Admitted w → restore_number w room ≡ list_number w.room.table room (changes w)
  unfolding restore_number test_number list_number
  number-list a =
      first-append (tests w) (list_tests w.room.table room (changes w)) ∙ first-passed (test_number w) (list_tests w.room.table room (changes w)) (admits_test w a)
