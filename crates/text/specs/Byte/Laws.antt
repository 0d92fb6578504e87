-- Laws of bytes.
use Rattle.std.specs.Prelude.{◌≡◌, true, List, ◌∷◌, ℕ, ◌<◌}
use Rattle.std.proofs.Common.{lt-ltb}
use Rattle.text.specs.Byte.{is_byte}
use Rattle.text.specs.Every.{every}

pub is_byte_lem : (b : ℕ) → b < 256 → is_byte b ≡ true
unfolding is_byte
is_byte_lem b h = lt-ltb b 256 h

-- a byte before others
pub byte_first : (b : ℕ) (s : List ℕ) → b < 256 → every is_byte s ≡ true → every is_byte (b ∷ s) ≡ true
unfolding every
byte_first b s h k = rw (is_byte_lem b h) k
