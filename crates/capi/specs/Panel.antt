-- The panel call for C: one number is lent for what it counts.
pub mod Laws
pub mod Telling
use Rattle.std.specs.Prelude.{List, [], ◌∷◌, ℕ, ℤ}
use Rattle.values.specs.Room.{Room}
use Rattle.panel.specs.Panel.{Told, panel}

-- the number, and what the call leaves in the count, in the values and in the reply buffer
pub record PanelAnswer : Type 0 where
  pub number : ℕ
  pub told : List ℕ
  pub values : List ℤ
  pub reply : List ℕ

unfoldable pub panel_tells : (number : ℕ) → (told : List ℕ) → List ℤ → (reply : List ℕ) → PanelAnswer
panel_tells number told vs reply = record { number = number; told = told; values = vs; reply = reply }

-- the one count: the length of what is told
unfoldable pub counted : Told → PanelAnswer
counted a = panel_tells a.number (a.sent ∷ []) a.values a.buffer

-- the whole call; a refusal counts zero and changes nothing else
unfoldable pub panel_answer : Room → List ℤ → (reply : List ℕ) → (owner row : ℕ) → ℤ → PanelAnswer
panel_answer r vs reply owner row x = counted (panel r vs reply owner row x)
