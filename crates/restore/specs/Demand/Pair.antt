-- The two restore calls, with the same given to both.
use Rattle.std.specs.Prelude.{◌≡◌, refl, Bool, true, false, List, ℕ, zero, suc, leb, length}
use Rattle.std.proofs.Common.{◌∙◌, arith, leb-true, leb-false}
use Rattle.wish.specs.Target.{Wish}
use Rattle.wish.specs.Listing.{changes, listing, restore, size, size_number}
use Rattle.wish.specs.Listing.Sizing.{size-refused, size_told_lem, written_fits, written_refused, written_short}
use Rattle.wish.specs.Listing.Telling.{listed_told, refused-told}
use Rattle.restore.specs.Demand.{Paired, Restores, Sizes, restores, size_told, sizes, tells}
use Rattle.restore.specs.Restored.{Restored}

-- what the two definitions say
pub paired : (w : Wish) (buffer : List ℕ) → Paired (size w) (length buffer) (restore w buffer)
paired w buffer = go (size_number w) (leb (length (listing w.room.table (changes w))) (length buffer)) refl refl
  where
    go : (n : ℕ) (b : Bool) → size_number w ≡ n → leb (length (listing w.room.table (changes w))) (length buffer) ≡ b
        → Paired (size w) (length buffer) (restore w buffer)
    go zero true e f =
        let h = leb-true (length (listing w.room.table (changes w))) (length buffer) f in
        rw (size_told_lem w e, listed_told w buffer (written_fits w (length buffer) e h))
        (record { eight = λ z. ((λ k. absurd (omega arith)), (λ k. absurd (omega arith))); writes = λ z k. (refl, refl, refl); refuses = λ z. absurd (z refl) })
    go zero false e f =
        let h = leb-false (length (listing w.room.table (changes w))) (length buffer) f in
        rw (size_told_lem w e, refused-told w buffer 8 (written_short w (length buffer) e h) (λ z. omega arith))
        (record { eight = λ z. ((λ k. h), (λ k. refl)); writes = λ z k. absurd (omega arith); refuses = λ z. absurd (z refl) })
    go (suc n) b e f =
        let r = written_refused w (length buffer) (λ z. omega arith) in
        rw (size-refused w (suc n) e (λ z. omega arith), refused-told w buffer (suc n) (r ∙ e) (λ z. omega arith))
        (record { eight = λ z. absurd (omega arith); writes = λ z k. absurd (omega arith); refuses = λ z. refl })

-- so any two calls that keep their promises, and were given the same
pub pair_calls : {w : Wish} {buffer : List ℕ} {s r : Restored} {buffer' : List ℕ} → Sizes w s → Restores w buffer r buffer'
    → Paired (size_told s) (length buffer) (tells r buffer')
pair_calls (sizes told demand) (restores told' demand' pair) = rw told pair
