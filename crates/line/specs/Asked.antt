-- The get line of a parameter.
pub mod Laws
use Rattle.std.specs.Prelude.{List, ◌∷◌, ◌++◌, ℕ}
use Rattle.catalogue.specs.Groups.{groups_of}
use Rattle.catalogue.specs.declared.groups.Part.{Part}
use Rattle.room.specs.Label.{label}
use Rattle.values.specs.declared.parameter.Parameter.{Parameter}
use Rattle.spelling.specs.IndexText.{index_text}

-- the line, without its 0D, that asks for a part of the parameter p: `GA`, the label between quotes and the index groups
unfoldable pub get_line : List ℕ → Parameter → Part → List ℕ
get_line t p u = 0x47 ∷ 0x41 ∷ 0x22 ∷ (label t p.owner ++ (0x22 ∷ index_text (groups_of p.row.indices u)))
