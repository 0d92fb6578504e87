-- The rule for the code of the panel call.
use Rattle.std.specs.Prelude.{◌≡◌, List, [], ◌∷◌, ℕ, ℤ}
use Rattle.std.proofs.Common.{to_z-of_z, SFits, of_z, to_z}
use Rattle.std.specs.Int.{w64}
use Rattle.values.specs.Room.{Room}
use Rattle.panel.specs.Panel.{Changes}
use Rattle.panel.specs.Panel.Laws.{told-field}
use Rattle.panel.specs.Panel.{Changed}
use Rattle.capi.specs.Panel.{counted, panel_answer, panel_tells}

pub panel-told : (r : Room) (vs : List ℤ) (reply : List ℕ) (owner row : ℕ) (x : ℤ) (c : Changed) (vs' : List ℤ) (reply' : List ℕ) → SFits w64 x
    → Changes r vs reply owner row (to_z w64 (of_z w64 x)) c vs' reply' → panel_tells c.number (c.sent ∷ []) vs' reply' ≡ panel_answer r vs reply owner row x
unfolding panel_answer counted
panel-told r vs reply owner row x c vs' reply' f h = told-field (rw (to_z-of_z f) at h) counted
