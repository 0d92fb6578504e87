-- Rules for the code that writes ACK and NAK.
use Rattle.std.specs.Prelude.{List, [], ◌∷◌, ℕ, ◌+◌, ◌/◌, ◌%◌}
use Rattle.text.specs.Written.{Wrote}
use Rattle.spelling.specs.Acknowledgement.{ack, nak}

pub wrote_ack : (l : List ℕ) (r : ℕ) (m : List ℕ) → Wrote l 0 (0x06 ∷ 0x0D ∷ []) r m → Wrote l 0 ack r m
unfolding ack
wrote_ack l r m w = w

pub wrote_nak : (l : List ℕ) (code r : ℕ) (m : List ℕ) → Wrote l 0 (0x15 ∷ (48 + code / 10) ∷ (48 + code % 10) ∷ 0x0D ∷ []) r m → Wrote l 0 (nak code) r m
unfolding nak
wrote_nak l code r m w = w
