-- Laws of the restore calls for C.
use Rattle.std.specs.Prelude.{◌≡◌, refl, List, [], ◌∷◌, ℕ, suc, length}
use Rattle.std.proofs.Common.{arith}
use Rattle.wish.specs.Target.{Wish}
use Rattle.wish.specs.Listing.{restore_number, size_number}
use Rattle.wish.specs.Listing.Sizing.{size-refused}
use Rattle.wish.specs.Listing.Telling.{refused-told}
use Rattle.capi.specs.Restore.{counted, restore_answer, restore_tells, size_answer, size_counted, size_tells}

-- a refusal counts zero
pub size_answer-refused : (w : Wish) (n : ℕ) → size_number w ≡ suc n → size_answer w ≡ size_tells (suc n) (0 ∷ 0 ∷ [])
unfolding size_answer size_counted
size_answer-refused w n e = rw (size-refused w (suc n) e (λ z. omega arith)) refl

-- and leaves the list buffer as it was
pub answer-refused : (w : Wish) (list : List ℕ) (n : ℕ) → restore_number w (length list) ≡ suc n
    → restore_answer w list ≡ restore_tells (suc n) (0 ∷ 0 ∷ []) list
unfolding restore_answer counted
answer-refused w list n e = rw (refused-told w list (suc n) e (λ z. omega arith)) refl
