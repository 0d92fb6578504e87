-- The rules for the code of the restore calls.
use Rattle.std.specs.Prelude.{◌≡◌, List, [], ◌∷◌, ℕ}
use Rattle.restore.specs.Demand.{Restores, Sizes}
use Rattle.restore.proofs.Laws.Demand.Telling.{size-field, told-field}
use Rattle.wish.specs.Target.{Wish}
use Rattle.restore.specs.Restored.{Restored}
use Rattle.capi.specs.Restore.{counted, restore_answer, restore_tells, size_answer, size_counted, size_tells}

pub size_told_lem : (w : Wish) (r : Restored) → Sizes w r → size_tells r.number (r.bytes ∷ r.lines ∷ []) ≡ size_answer w
unfolding size_answer size_counted
size_told_lem w r h = size-field h size_counted

pub restore-told : (w : Wish) (list : List ℕ) (r : Restored) (list' : List ℕ) → Restores w list r list'
    → restore_tells r.number (r.bytes ∷ r.lines ∷ []) list' ≡ restore_answer w list
unfolding restore_answer counted
restore-told w list r list' h = told-field h counted
