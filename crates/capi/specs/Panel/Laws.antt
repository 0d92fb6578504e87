-- A law of the panel call for C.
use Rattle.std.specs.Prelude.{◌≡◌, refl, List, [], ◌∷◌, ℕ, suc, ℤ, length}
use Rattle.values.specs.Room.{Room}
use Rattle.panel.specs.Panel.{panel_number}
use Rattle.panel.specs.Panel.Laws.{refused-told}
use Rattle.capi.specs.Panel.{counted, panel_answer, panel_tells}

-- a refusal counts zero, and changes neither the values nor the reply buffer
pub answer-refused : (r : Room) (vs : List ℤ) (reply : List ℕ) (owner row : ℕ) (x : ℤ) (n : ℕ) → panel_number r vs (length reply) owner row x ≡ suc n
    → panel_answer r vs reply owner row x ≡ panel_tells (suc n) (0 ∷ []) vs reply
unfolding panel_answer counted
answer-refused r vs reply owner row x n e = rw (refused-told r vs reply owner row x n e) refl
