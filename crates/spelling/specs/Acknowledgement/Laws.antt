-- How long ACK and NAK are, and how they begin; the code that a NAK tells.
use Rattle.std.specs.Prelude.{◌≡◌, refl, ℕ, ◌+◌, ◌/◌, ◌%◌, length, get_or}
use Rattle.std.proofs.Common.{ap, arith}
use Rattle.spelling.specs.Acknowledgement.{ack, nak}

pub ack-length : length ack ≡ 2
unfolding ack
ack-length = refl

pub nak-length : (code : ℕ) → length (nak code) ≡ 4
unfolding nak
nak-length code = refl

pub nak-begins : (code : ℕ) → get_or (nak code) 0 0 ≡ 0x15
unfolding nak
nak-begins code = refl

-- two NAKs that are the same tell the same code
pub nak-tells : (m n : ℕ) → nak m ≡ nak n → m ≡ n
unfolding nak
nak-tells m n h =
    let a : 48 + m / 10 ≡ 48 + n / 10 = ap (λ l. get_or l 1 0) h in
    let b : 48 + m % 10 ≡ 48 + n % 10 = ap (λ l. get_or l 2 0) h in
    omega arith
