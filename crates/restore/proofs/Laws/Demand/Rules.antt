-- How the restore calls keep their promises: a refusal tells zeros and writes nothing, an accepted call tells the list's size, and that which writes has written it.
use Rattle.std.specs.Prelude.{◌≡◌, List, ℕ, length}
use Rattle.std.proofs.Math.Path.{sym}
use Rattle.std.proofs.lemmas.List.Edits.{sets}
use Rattle.wish.specs.Target.{Wish}
use Rattle.wish.specs.Listing.{changes, listing, restore_number, size_number}
use Rattle.wish.specs.Listing.Sizing.{size-refused, size_told_lem}
use Rattle.wish.specs.Listing.Telling.{listed_told, refused-told}
use Rattle.restore.specs.Demand.{Restores, Sizes, size_told, tells}
use Rattle.restore.proofs.Laws.Demand.Laws.{told-restores, told-sizes}
use Rattle.restore.specs.Restored.{Restored}

module _ (w : Wish) where
  pub sizes-refused : (n : ℕ) → size_number w ≡ n → (n ≡ 0 → ⊥) → Sizes w (record { bytes = 0; lines = 0; number = n })
  sizes-refused n e h = told-sizes w (record { bytes = 0; lines = 0; number = n }) (unfold size_told in sym (size-refused w n e h))

  pub sizes-listed : (bytes lines : ℕ) → size_number w ≡ 0 → bytes ≡ length (listing w.room.table (changes w)) → lines ≡ length (changes w)
      → Sizes w (record { bytes = bytes; lines = lines; number = 0 })
  sizes-listed bytes lines e b l = told-sizes w (record { bytes = bytes; lines = lines; number = 0 }) (unfold size_told in rw (b, l) (sym (size_told_lem w e)))

module _ (w : Wish) (buffer : List ℕ) where
  pub returns_refused : (r : Restored) (n : ℕ) → restore_number w (length buffer) ≡ n → (n ≡ 0 → ⊥) → r.number ≡ n → r.bytes ≡ 0 → r.lines ≡ 0
      → Restores w buffer r buffer
  returns_refused r n e h i b l = told-restores w buffer r buffer (unfold tells in rw (i, b, l) (sym (refused-told w buffer n e h)))

  pub returns_listed : (r : Restored) (buffer' : List ℕ) → restore_number w (length buffer) ≡ 0 → r.number ≡ 0 → r.bytes ≡ length (listing w.room.table (changes w))
      → r.lines ≡ length (changes w) → buffer' ≡ sets buffer 0 (listing w.room.table (changes w)) → Restores w buffer r buffer'
  returns_listed r buffer' e i b l w' = told-restores w buffer r buffer' (unfold tells in rw (i, b, l, w') (sym (listed_told w buffer e)))
