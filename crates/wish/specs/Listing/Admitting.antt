-- A restore call that 1, 2, 5 and 6 do not refuse is one that demand 3 speaks of.
use Rattle.std.specs.Prelude.{◌≡◌, Bool, true, false, List, length}
use Rattle.std.proofs.Math.Path.{refl}
use Rattle.std.proofs.Common.{◌∙◌}
use Prim.Native.Nat.{ℕ, zero, suc}
use Rattle.room.specs.Table.{sound}
use Rattle.values.specs.Values.{values_sound}
use Rattle.wish.specs.Target.{Wish, selection_right, wanted_right}
use Rattle.wish.specs.Listing.{Admitted, changes, restore_number, tell, restore}
use Rattle.wish.specs.Listing.Numbers.{number-table, number-present, number-selection, number-wanted}

module _ (w : Wish) (buffer : List ℕ) where
  -- the call tells its number
  pub told-number : (restore w buffer).number ≡ restore_number w (length buffer)
  unfolding restore tell
  told-number = go (restore_number w (length buffer))
    where
      go : (n : ℕ) → (tell w.room.table n buffer (changes w)).number ≡ n
      go zero = refl
      go (suc n) = refl

  pub told-admits : ((restore w buffer).number ≡ 1 → ⊥) → ((restore w buffer).number ≡ 2 → ⊥) → ((restore w buffer).number ≡ 5 → ⊥)
      → ((restore w buffer).number ≡ 6 → ⊥) → Admitted w
  told-admits one two five six =
      go (sound w.room.table) (values_sound w.room w.present) (selection_right w.room.table w.selection)
      (wanted_right w.room w.selection w.wanted) refl refl refl refl
    where
      go : (a b c d : Bool) → sound w.room.table ≡ a → values_sound w.room w.present ≡ b → selection_right w.room.table w.selection ≡ c
          → wanted_right w.room w.selection w.wanted ≡ d → Admitted w
      go false b c d e f g i = absurd (one (told-number ∙ number-table w (length buffer) e))
      go true false c d e f g i = absurd (two (told-number ∙ number-present w (length buffer) e f))
      go true true false d e f g i = absurd (five (told-number ∙ number-selection w (length buffer) e f g))
      go true true true false e f g i = absurd (six (told-number ∙ number-wanted w (length buffer) e f g i))
      go true true true true e f g i = record { table = e; present = f; selection = g; wanted = i }
