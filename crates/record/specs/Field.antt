-- The label's field of a record: a label, and then zero bytes.
pub mod Bytes
pub mod Rules
pub mod Run
pub mod Tally
use Rattle.std.specs.Prelude.{Bool, not, ◌&&◌, List, ℕ, eqb, leb, length, drop}
use Rattle.text.specs.Cut.{index_of, before}
use Rattle.text.specs.Every.{every}

-- a label's byte: from 0x20 to 0x7E and no quote
unfoldable pub label_byte : ℕ → Bool
label_byte b = leb 0x20 b && leb b 0x7E && not (eqb b 0x22)

-- a label has 1 to 32 bytes
unfoldable pub label_right : List ℕ → Bool
label_right s = leb 1 (length s) && leb (length s) 32 && every label_byte s

unfoldable pub is_zero : ℕ → Bool
is_zero b = eqb b 0

-- a label's field: the label and then zero bytes
unfoldable pub field_sound : List ℕ → Bool
field_sound f = label_right (before 0 f) && every is_zero (drop (index_of 0 f) f)
