-- Rules for the tests before the list: the first that fails gives the call its number.
use Rattle.std.specs.Prelude.{◌≡◌, Bool, true, false, not, List, ℕ, ℤ}
use Rattle.std.proofs.Common.{sym, ◌∙◌}
use Rattle.std.proofs.lemmas.Bool.{not-false, not-true}
use Rattle.room.specs.Refusal.{first_refusal}
use Rattle.room.specs.Refusal.Laws.{refusing}
use Rattle.room.specs.Table.Number.{table_held}
use Rattle.values.specs.Room.{Room}
use Rattle.wish.specs.Target.{selection_right, wanted_right, wish_of}
use Rattle.wish.specs.Listing.{selection_number, test_number, tests, wanted_number}
use Rattle.wish.specs.Listing.Numbers.{passed_selection, selection_passed, selection_refused, test_first, wanted_passed, wanted_refused}

-- ---- the number of one test

module _ (t selection : List ℕ) (b : Bool) (e : b ≡ selection_right t selection) where
  pub fails_selection : b ≡ false → 5 ≡ selection_number t selection
  fails_selection h = sym (selection_refused t selection (sym e ∙ h))

  pub passes_selection : b ≡ true → 0 ≡ selection_number t selection
  passes_selection h = sym (selection_passed t selection (sym e ∙ h))

module _ (r : Room) (selection : List ℕ) (ws : List ℤ) (b : Bool) (e : b ≡ wanted_right r selection ws) where
  pub fails_wanted : not b ≡ true → 6 ≡ wanted_number r selection ws
  fails_wanted h = sym (wanted_refused r selection ws (sym e ∙ not-true b h))

  pub passes_wanted : not b ≡ false → 0 ≡ wanted_number r selection ws
  passes_wanted h = sym (wanted_passed r selection ws (sym e ∙ not-false b h))

pub ruleset wish_testing = (fails_selection, passes_selection, fails_wanted, passes_wanted)

-- ---- the number of them all

pub selection_held : (t selection : List ℕ) (n : ℕ) → n ≡ selection_number t selection → n ≡ 0 → selection_right t selection ≡ true
selection_held t selection n e z = passed_selection t selection (sym e ∙ z)

pub tests-wish : (t : List ℕ) (vs : List ℤ) (selection : List ℕ) (ws : List ℤ) (n : ℕ) → n ≡ first_refusal (tests (wish_of t vs selection ws))
    → n ≡ test_number (wish_of t vs selection ws)
tests-wish t vs selection ws n e = e ∙ sym (test_first (wish_of t vs selection ws))

pub ruleset testing = (table_held, selection_held, tests-wish, refusing)
