-- The replies that tell no value: ACK, and NAK with a code.
pub mod Laws
pub mod Writing
use Rattle.std.specs.Prelude.{List, [], ◌∷◌, ℕ, ◌+◌, ◌/◌, ◌%◌}

-- 06, 0D
unfoldable pub ack : List ℕ
ack = 0x06 ∷ 0x0D ∷ []

-- 15, the code in two digits, 0D
unfoldable pub nak : ℕ → List ℕ
nak code = 0x15 ∷ (48 + code / 10) ∷ (48 + code % 10) ∷ 0x0D ∷ []
