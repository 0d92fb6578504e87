-- How a line names a parameter, or a part of it.
pub mod Measuring
pub mod Writing
use Rattle.std.specs.Prelude.{List, [], ◌∷◌, ◌++◌, ℕ}
use Rattle.catalogue.specs.Groups.{groups_of}
use Rattle.catalogue.specs.declared.groups.Part.{Part}
use Rattle.room.specs.Label.{label}
use Rattle.values.specs.declared.parameter.Parameter.{Parameter}
use Rattle.spelling.specs.IndexText.{index_text}

-- label between quotes and index groups, as a line names a part of a parameter
unfoldable pub name : List ℕ → Parameter → Part → List ℕ
name t p part = 0x22 ∷ (label t p.owner ++ (0x22 ∷ index_text (groups_of p.row.indices part)))

-- what stands before the value: the verb, by its first byte, the name and `=`
unfoldable pub front : ℕ → List ℕ → Parameter → Part → List ℕ
front verb t p part = verb ∷ 0x41 ∷ (name t p part ++ (0x3D ∷ []))
