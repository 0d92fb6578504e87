-- What the restore calls told, field by field.
use Rattle.std.specs.Prelude.{◌≡◌, List, ℕ}
use Rattle.std.proofs.Common.{ap}
use Rattle.wish.specs.Target.{Wish}
use Rattle.wish.specs.Listing.{Size, Told, restore, size}
use Rattle.restore.specs.Demand.{Restores, Sizes, size_told, tells}
use Rattle.restore.proofs.Laws.Demand.Laws.{size-by, told-by}
use Rattle.restore.specs.Restored.{Restored}

-- a field of what it told, or whatever else is made of that: of the size call, and of the writing call
pub size-field : {w : Wish} {r : Restored} → Sizes w r → {A : Type 0} (f : Size → A) → f (record { number = r.number; bytes = r.bytes; lines = r.lines }) ≡ f (size w)
unfolding size_told
size-field h f = ap f (size-by h)

pub told-field : {w : Wish} {buffer : List ℕ} {r : Restored} {buffer' : List ℕ} → Restores w buffer r buffer' → {A : Type 0} (f : Told → A)
    → f (record { number = r.number; bytes = r.bytes; lines = r.lines; buffer = buffer' }) ≡ f (restore w buffer)
unfolding tells
told-field h f = ap f (told-by h)
