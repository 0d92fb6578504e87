-- The bytes of a label.
use Rattle.std.specs.Prelude.{◌≡◌, refl, Bool, true, false, not, ◌&&◌, List, ℕ, ◌≤◌, ◌<◌, eqb, leb, length, get_or, drop}
use Rattle.std.proofs.Common.{arith, leb-true}
use Rattle.std.proofs.lemmas.Bool.{eqb-false, not-true}
use Rattle.text.specs.Byte.{is_byte}
use Rattle.text.specs.Byte.Laws.{is_byte_lem}
use Rattle.text.specs.Cut.{before, index_of}
use Rattle.text.specs.Cut.Laws.{index_none}
use Rattle.text.specs.Every.Laws.{both_left, both_right, every-at, every-weaker}
use Rattle.text.specs.Every.{every}
use Rattle.record.specs.Field.{field_sound, is_zero, label_byte, label_right}

pub record Printed (b : ℕ) : Type 0 where
  pub low : 32 ≤ b
  pub high : b ≤ 126
  pub unquoted : b ≡ 34 → ⊥

pub label_byte_lem : (b : ℕ) → label_byte b ≡ true → Printed b
unfolding label_byte
label_byte_lem b e =
    let bounds = both_left (leb 32 b && leb b 126) (not (eqb b 34)) e in
    record {
      low = leb-true 32 b (both_left (leb 32 b) (leb b 126) bounds);
      high = leb-true b 126 (both_right (leb 32 b) (leb b 126) bounds);
      unquoted = eqb-false b 34 (not-true (eqb b 34) (both_right (leb 32 b && leb b 126) (not (eqb b 34)) e));
    }

pub record Right (s : List ℕ) : Type 0 where
  pub least : 1 ≤ length s
  pub most : length s ≤ 32
  pub each : every label_byte s ≡ true

pub label_right_lem : (s : List ℕ) → label_right s ≡ true → Right s
unfolding label_right
label_right_lem s e =
    let bounds = both_left (leb 1 (length s) && leb (length s) 32) (every label_byte s) e in
    record {
      least = leb-true 1 (length s) (both_left (leb 1 (length s)) (leb (length s) 32) bounds);
      most = leb-true (length s) 32 (both_right (leb 1 (length s)) (leb (length s) 32) bounds);
      each = both_right (leb 1 (length s) && leb (length s) 32) (every label_byte s) e;
    }

-- a sound field begins with a label
pub field_label : (f : List ℕ) → field_sound f ≡ true → label_right (before 0 f) ≡ true
unfolding field_sound
field_label f e = both_left (label_right (before 0 f)) (every is_zero (drop (index_of 0 f) f)) e

-- each byte of a label
pub label_at : (s : List ℕ) → every label_byte s ≡ true → (i : ℕ) → i < length s → Printed (get_or s i 0)
label_at s e i l = label_byte_lem (get_or s i 0) (every-at label_byte s 0 e i l)

-- a byte that no label may have is not found in one
pub label-without : (b : ℕ) → (Printed b → ⊥) → (s : List ℕ) → every label_byte s ≡ true → index_of b s ≡ length s
label-without b n s e = go (label_byte b) refl
  where
    go : (t : Bool) → label_byte b ≡ t → index_of b s ≡ length s
    go true p = absurd (n (label_byte_lem b p))
    go false p = index_none label_byte b s e p

pub label-no_quote : (s : List ℕ) → label_right s ≡ true → index_of 34 s ≡ length s
label-no_quote s e = label-without 34 (λ p. p.unquoted refl) s (label_right_lem s e).each

pub label-no_return : (s : List ℕ) → label_right s ≡ true → index_of 13 s ≡ length s
label-no_return s e = label-without 13 (λ p. omega arith) s (label_right_lem s e).each

-- they are bytes
pub label-bytes : (s : List ℕ) → label_right s ≡ true → every is_byte s ≡ true
label-bytes s e = every-weaker label_byte is_byte (λ b l. is_byte_lem b (omega (arith, (label_byte_lem b l).high))) s (label_right_lem s e).each
