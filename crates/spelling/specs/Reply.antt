-- The answer to a get line, and how it is read as a set line.
pub mod Laws
pub mod Writing
use Rattle.std.specs.Prelude.{List, [], ◌∷◌, ◌++◌, ℕ, ◌-◌, ℤ, length, take, drop}
use Rattle.catalogue.specs.declared.groups.Part.{Part}
use Rattle.values.specs.declared.parameter.Parameter.{Parameter}
use Rattle.spelling.specs.Line.{line_for}

-- the answer to GA, in the form in which the line asked
unfoldable pub get_reply : List ℕ → Parameter → Part → ℤ → List ℕ
get_reply t p part v = line_for 0x47 t p part v ++ (0x0D ∷ [])

-- a reply as a set line: `SA` for its first two bytes, and without its last one
unfoldable pub as_set_line : List ℕ → List ℕ
as_set_line reply = 0x53 ∷ 0x41 ∷ take (length reply - 3) (drop 2 reply)
