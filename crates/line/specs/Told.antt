-- The answer to a get line reads back: with `SA` for its `GA` and without its 0D it is a set line that names the same parameter and says its value.
pub mod Laws
use Rattle.std.specs.Prelude.{◌≡◌, List, [], ◌∷◌, ℕ, ◌+◌, ◌≤◌, ℤ, length, take, Some}
use Rattle.text.specs.Cut.{index_of}
use Rattle.catalogue.specs.declared.groups.Part.{Part}
use Rattle.values.specs.declared.parameter.Parameter.{Parameter}
use Rattle.syntax.specs.Value.{read_part}
use Rattle.spelling.specs.Reply.{as_set_line}
use Rattle.spelling.specs.Text.{part_text}
use Rattle.line.specs.Said.Naming.{Parts}
use Rattle.line.specs.Said.Texts.{part_put}

-- what a get reply says: the part u of the parameter p by label and index groups, and this part of the value v; said to a present value it puts the part
pub record Told (t : List ℕ) (p : Parameter) (u : Part) (v : ℤ) (reply : List ℕ) : Type 0 where
  pub verb : take 2 reply ≡ 0x47 ∷ 0x41 ∷ []
  pub ends : index_of 0x0D reply + 1 ≡ length reply
  pub short : length reply ≤ 51
  pub parts : Parts t p u (part_text p.row.kind u v) (as_set_line reply)
  pub says : (present : ℤ) → read_part p.row.kind u present (part_text p.row.kind u v) ≡ Some (part_put u present v)
