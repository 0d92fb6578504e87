-- What the tests of a label leave, for each of their answers.
use Rattle.std.specs.Prelude.{◌≡◌, refl, true, false, not, List, ℕ, ◌≤◌, ◌<◌, eqb, leb, length}
use Rattle.std.proofs.Common.{sym, arith, ne_eqb, le-leb}
use Rattle.std.proofs.Math.Bool.{and-true}
use Rattle.std.proofs.lemmas.Bool.{lt-leb}
use Rattle.record.specs.Field.{label_byte, label_right}
use Rattle.record.specs.Field.Run.{run, run-every}

-- ---- a byte of a label

pub byte_low : (b : ℕ) → b < 32 → false ≡ label_byte b
unfolding label_byte
byte_low b l = rw (lt-leb 32 b l)

pub byte_high : (b : ℕ) → 34 < b → leb b 126 ≡ label_byte b
unfolding label_byte
byte_high b l =
    let n : not (eqb b 34) ≡ true = rw (ne_eqb b 34 (λ e. omega arith)) refl in
    rw (le-leb 32 b (omega arith), n) (sym (and-true (leb b 126)))

pub byte_beyond : (b : ℕ) → 126 < b → false ≡ label_byte b
unfolding label_byte
byte_beyond b l = rw (le-leb 32 b (omega arith), lt-leb b 126 l)

pub byte_quote : (b : ℕ) → 32 ≤ b → b ≤ 126 → not (eqb b 34) ≡ label_byte b
unfolding label_byte
byte_quote b l h = rw (le-leb 32 b l, le-leb b 126 h)

-- ---- a label

-- shorter than a bound of at most 1, or longer than one of at least 32
pub label-short : (s : List ℕ) (k : ℕ) → k ≤ 1 → length s < k → false ≡ label_right s
unfolding label_right
label-short s k b l = rw (lt-leb 1 (length s) (omega arith))

pub label-long : (s : List ℕ) (k : ℕ) → 32 ≤ k → k < length s → false ≡ label_right s
unfolding label_right
label-long s k b l = rw (le-leb 1 (length s) (omega arith), lt-leb (length s) 32 (omega arith))

-- as many bytes at its beginning may stand in a label as it has
pub label-all : (s : List ℕ) (n : ℕ) → 1 ≤ length s → length s ≤ 32 → n ≡ run label_byte s → eqb n (length s) ≡ label_right s
unfolding label_right
label-all s n a b e = rw (le-leb 1 (length s) a, le-leb (length s) 32 b, e) (run-every label_byte s)

pub ruleset labels = (byte_low, byte_beyond, byte_quote, label-short, label-long, label-all)
