-- Bytes among the numbers.
pub mod Laws
pub mod Values
use Rattle.std.specs.Prelude.{Bool, List, [], ◌∷◌, ℕ, ltb}
use Prim.Native.Char.{code}
use Prim.Native.String as string
use Prim.Native.String.{String}

-- a byte is a number below 256
unfoldable pub is_byte : ℕ → Bool
is_byte b = ltb b 256

-- the bytes of a text
abbrev pub bytes : String → List ℕ
bytes string.[] = []
bytes (string.◌∷◌ c s) = code c ∷ bytes s
