-- What the restore call tells: a refusal counts zero and changes nothing, an accepted call writes the list.
use Rattle.std.specs.Prelude.{◌≡◌, List, length}
use Rattle.std.proofs.Math.Path.{refl}
use Prim.Native.Nat.{ℕ, zero, suc}
use Rattle.std.proofs.lemmas.List.Edits.{sets}
use Rattle.wish.specs.Target.{Wish}
use Rattle.wish.specs.Listing.{changes, listing, restore, restore_number, tell}

module _ (w : Wish) (buffer : List ℕ) where
  pub refused-told : (n : ℕ) → restore_number w (length buffer) ≡ n → (n ≡ 0 → ⊥)
      → restore w buffer ≡ record { number = n; bytes = 0; lines = 0; buffer = buffer }
  unfolding restore
  refused-told n e h = rw e (go n h)
    where
      go : (n : ℕ) → (n ≡ 0 → ⊥) → tell w.room.table n buffer (changes w) ≡ record { number = n; bytes = 0; lines = 0; buffer = buffer }
      go zero h = absurd (h refl)
      go (suc n) h = unfold tell in refl

  pub listed_told : restore_number w (length buffer) ≡ 0
      → restore w buffer
      ≡ record {
        number = 0;
        bytes = length (listing w.room.table (changes w));
        lines = length (changes w);
        buffer = sets buffer 0 (listing w.room.table (changes w));
      }
  unfolding restore tell
  listed_told e = rw e refl
