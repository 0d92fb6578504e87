-- The size call: its numbers, what it tells, and what they mean for the writing call's number.
use Rattle.std.specs.Prelude.{◌≡◌, Bool, true, false, [], ◌∷◌, length}
use Rattle.std.proofs.Math.Path.{refl}
use Rattle.std.proofs.Common.{◌∙◌, arith}
use Prim.Native.Nat.{ℕ, zero, suc, ◌≤◌, ◌<◌}
use Rattle.room.specs.Refusal.{first_refusal}
use Rattle.room.specs.Refusal.Laws.{first-append, first-last, first-passed, first_stops}
use Rattle.room.specs.Table.{sound}
use Rattle.values.specs.Values.{values_sound}
use Rattle.wish.specs.Target.{Wish, selection_right, wanted_right}
use Rattle.wish.specs.Listing.{Admitted, all_reachable, changes, list_tests, listing, reach_number, restore_number, size, size_number, size_of, space_number, test_number, tests}
use Rattle.wish.specs.Listing.Numbers.{admits_test, number-present, number-selection, number-table, number-test, number-wanted, reach_passed, reach_refused, space_passed, space_refused, test_admits}

module _ (w : Wish) where
  -- ---- its number: 1, 2, 5 and 6, then 7

  size-split : size_number w ≡ first_refusal (test_number w ∷ reach_number w.room.table (changes w) ∷ [])
  unfolding size_number test_number
  size-split = first-append (tests w) (reach_number w.room.table (changes w) ∷ [])

  pub size-test : (test_number w ≡ 0 → ⊥) → size_number w ≡ test_number w
  size-test h = size-split ∙ first_stops (test_number w) (reach_number w.room.table (changes w) ∷ []) h

  size-reach : Admitted w → size_number w ≡ reach_number w.room.table (changes w)
  size-reach a =
      size-split
      ∙ first-passed (test_number w) (reach_number w.room.table (changes w) ∷ []) (admits_test w a)
      ∙ first-last (reach_number w.room.table (changes w))

  pub size-beyond : Admitted w → all_reachable w.room.table (changes w) ≡ false → size_number w ≡ 7
  size-beyond a r = size-reach a ∙ reach_refused w.room.table (changes w) r

  pub size-within : Admitted w → all_reachable w.room.table (changes w) ≡ true → size_number w ≡ 0
  size-within a r = size-reach a ∙ reach_passed w.room.table (changes w) r

  -- ---- what it tells

  pub size_told_lem : size_number w ≡ 0
      → size w ≡ record { number = 0; bytes = length (listing w.room.table (changes w)); lines = length (changes w) }
  unfolding size size_of
  size_told_lem e = rw e refl

  pub size-refused : (n : ℕ) → size_number w ≡ n → (n ≡ 0 → ⊥) → size w ≡ record { number = n; bytes = 0; lines = 0 }
  unfolding size
  size-refused n e h = rw e (go n h)
    where
      go : (n : ℕ) → (n ≡ 0 → ⊥) → size_of w.room.table n (changes w) ≡ record { number = n; bytes = 0; lines = 0 }
      go zero h = absurd (h refl)
      go (suc n) h = unfold size_of in refl

  -- it tells its number
  pub size_number_lem : (size w).number ≡ size_number w
  unfolding size size_of
  size_number_lem = go (size_number w)
    where
      go : (n : ℕ) → (size_of w.room.table n (changes w)).number ≡ n
      go zero = refl
      go (suc n) = refl

  -- ---- the writing call: the same tests, and then 8

  module _ (room : ℕ) where
    written_split : restore_number w room ≡ first_refusal (size_number w ∷ space_number w.room.table room (changes w) ∷ [])
    unfolding restore_number size_number
    written_split =
        let one = reach_number w.room.table (changes w) in
        let two = space_number w.room.table room (changes w) in
        first-append (tests w) (list_tests w.room.table room (changes w))
        ∙ go (first_refusal (tests w)) one two
        ∙ rw (← first-append (tests w) (one ∷ []))
      where
        go : (n m k : ℕ) → first_refusal (n ∷ m ∷ k ∷ []) ≡ first_refusal (first_refusal (n ∷ m ∷ []) ∷ k ∷ [])
        go n m k = first-append (n ∷ m ∷ []) (k ∷ [])

    pub written_refused : (size_number w ≡ 0 → ⊥) → restore_number w room ≡ size_number w
    written_refused h = written_split ∙ first_stops (size_number w) (space_number w.room.table room (changes w) ∷ []) h

    written_space : size_number w ≡ 0 → restore_number w room ≡ space_number w.room.table room (changes w)
    written_space e =
        written_split
        ∙ first-passed (size_number w) (space_number w.room.table room (changes w) ∷ []) e
        ∙ first-last (space_number w.room.table room (changes w))

    pub written_short : size_number w ≡ 0 → room < length (listing w.room.table (changes w)) → restore_number w room ≡ 8
    written_short e h = written_space e ∙ space_refused w.room.table room (changes w) h

    pub written_fits : size_number w ≡ 0 → length (listing w.room.table (changes w)) ≤ room → restore_number w room ≡ 0
    written_fits e h = written_space e ∙ space_passed w.room.table room (changes w) h

  -- ---- it is never 8

  test_few : (test_number w ≡ 0 → ⊥) → test_number w ≤ 6
  test_few h =
      go (sound w.room.table) (values_sound w.room w.present) (selection_right w.room.table w.selection)
      (wanted_right w.room w.selection w.wanted) refl refl refl refl
    where
      go : (a b c d : Bool) → sound w.room.table ≡ a → values_sound w.room w.present ≡ b → selection_right w.room.table w.selection ≡ c
          → wanted_right w.room w.selection w.wanted ≡ d → test_number w ≤ 6
      go false b c d e f g i = omega (arith, number-test w 0 h, number-table w 0 e)
      go true false c d e f g i = omega (arith, number-test w 0 h, number-present w 0 e f)
      go true true false d e f g i = omega (arith, number-test w 0 h, number-selection w 0 e f g)
      go true true true false e f g i = omega (arith, number-test w 0 h, number-wanted w 0 e f g i)
      go true true true true e f g i = absurd (h (admits_test w (record { table = e; present = f; selection = g; wanted = i })))

  -- a wish that none of 1 to 6 refuses is admitted
  pub size-admits : (1 ≤ size_number w → size_number w ≤ 6 → ⊥) → Admitted w
  size-admits h = go (test_number w) refl
    where
      go : (n : ℕ) → test_number w ≡ n → Admitted w
      go zero e = test_admits w e
      go (suc n) e =
          let q = size-test (λ k. omega arith) in
          let f = test_few (λ k. omega arith) in
          absurd (h (omega arith) (omega arith))

  size_few : (t : ℕ) (r : Bool) → test_number w ≡ t → all_reachable w.room.table (changes w) ≡ r → size_number w ≤ 7
  size_few zero true e r = omega (arith, size-within (test_admits w e) r)
  size_few zero false e r = omega (arith, size-beyond (test_admits w e) r)
  size_few (suc t) r e s = omega (arith, size-test (λ k. omega arith), test_few (λ k. omega arith))

  pub size-never_eight : (size w).number ≡ 8 → ⊥
  size-never_eight e = omega (arith, size_number_lem, size_few (test_number w) (all_reachable w.room.table (changes w)) refl refl)
