-- A line that goes out with a value: the answer to a get line and the set line are the same line with another verb.
pub mod Laws
pub mod Writing
use Rattle.std.specs.Prelude.{List, ◌++◌, ℕ, ℤ}
use Rattle.catalogue.specs.declared.groups.Part.{Part}
use Rattle.values.specs.declared.parameter.Parameter.{Parameter}
use Rattle.spelling.specs.Name.{front}
use Rattle.spelling.specs.Text.{part_text}

-- the line, without its 0D, that says of the value v of the parameter p the part; its verb by the first byte, `S` or `G`
unfoldable pub line_for : (verb : ℕ) → List ℕ → Parameter → Part → ℤ → List ℕ
line_for verb t p part v = front verb t p part ++ part_text p.row.kind part v
