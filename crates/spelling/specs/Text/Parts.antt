-- The text of a part of a value: which bytes it has, how long it is, and how it is measured and written.
use Rattle.std.specs.Prelude.{◌≡◌, refl, true, false, List, ℕ, ◌+◌, ◌≤◌, ℤ, pos, nat_abs, length}
use Rattle.std.proofs.Common.{sym, arith, SFits, to_z-of_z}
use Rattle.std.specs.Int.{w64}
use Rattle.text.specs.Byte.Values.{value_byte, no_other, switch-bytes}
use Rattle.text.specs.Cut.{index_of}
use Rattle.text.specs.Every.{every}
use Rattle.text.specs.Level.Sign.{kept, kept-size}
use Rattle.text.specs.Switch.{switch_text}
use Rattle.text.specs.Switch.Laws.{switch-length}
use Rattle.text.specs.Word.{bit}
use Rattle.text.specs.Written.{Wrote}
use Rattle.catalogue.specs.Groups.{PartIn}
use Rattle.catalogue.specs.declared.groups.Part.{Part}
use Rattle.catalogue.specs.declared.groups.Part.TheVariants.{Whole, Output}
use Rattle.catalogue.specs.declared.row.Kind.{Kind}
use Rattle.spelling.specs.Text.{part_text, text_of}
use Rattle.spelling.specs.Text.Laws.{text-bytes}
use Rattle.spelling.specs.Text.Length.{zero_shortest}

pub whole_text_lem : (k : Kind) (v : ℤ) → part_text k Whole v ≡ text_of k v
unfolding part_text
whole_text_lem k v = refl

pub output_text : (k : Kind) (o : ℕ) (v : ℤ) → part_text k (Output o) v ≡ switch_text (bit o (nat_abs v))
unfolding part_text
output_text k o v = refl

-- ---- its bytes

pub part_bytes : (k : Kind) (part : Part) (v : ℤ) → every value_byte (part_text k part v) ≡ true
unfolding part_text
part_bytes k Whole v = text-bytes k v
part_bytes k (Output o) v = switch-bytes (bit o (nat_abs v))

pub part-lacks : (b : ℕ) (k : Kind) (part : Part) (v : ℤ) → value_byte b ≡ false → index_of b (part_text k part v) ≡ length (part_text k part v)
part-lacks b k part v n = no_other b (part_text k part v) n (part_bytes k part v)

-- no value has a shorter text than 0
pub part-zero : (k : Kind) (part : Part) (v : ℤ) → length (part_text k part (pos 0)) ≤ length (part_text k part v)
unfolding part_text
part-zero k Whole v = zero_shortest k v
part-zero k (Output o) v = omega (arith, switch-length (bit o 0), switch-length (bit o (nat_abs v)))

-- ---- rules for the code

module _ (k : Kind) (part : Part) (v : ℤ) (f : SFits w64 v) where
  pub whole_length : (r : ℕ) → part ≡ Whole → r ≡ length (text_of k (kept v)) → r ≡ length (part_text k part v)
  unfolding part_text
  whole_length r e h = rw e (rw (to_z-of_z f) at h)

  pub output_length : (o : ℕ) → part ≡ Output o → 1 ≡ length (part_text k part v)
  unfolding part_text
  output_length o e = rw e (sym (switch-length (bit o (nat_abs v))))

-- every switch is as long, so that another bit is refused for its byte
pub bit-room : (o at long b : ℕ) (v : ℤ) → at + length (switch_text (bit o (nat_abs v))) ≤ long → at + length (switch_text b) ≤ long
bit-room o at long b v h = omega (arith, switch-length b, switch-length (bit o (nat_abs v)))

pub wrote_bit : (o at b word r : ℕ) (v : ℤ) (l m : List ℕ) → SFits w64 v → word ≡ nat_abs (kept v) → b ≡ bit o word → Wrote l at (switch_text b) r m
    → Wrote l at (switch_text (bit o (nat_abs v))) r m
wrote_bit o at b word r v l m f n h w = rw (h, n, kept-size v f) at w

pub ruleset bit_writing = (bit-room, wrote_bit)

pub ruleset part_lengths = (whole_length, output_length)

module _ (part : Part) (u : PartIn part) (o : ℕ) (e : part ≡ Output o) where
  pub part-some : 1 ≤ o
  part-some = u.some o e

  pub part-most : o ≤ 32
  part-most = u.most o e

module _ (k : Kind) (part : Part) (v : ℤ) (at : ℕ) (f : SFits w64 v) where
  pub whole_room : (long : ℕ) → part ≡ Whole → at + length (part_text k part v) ≤ long → at + length (text_of k (kept v)) ≤ long
  unfolding part_text
  whole_room long e h = rw (to_z-of_z f) (rw e at h)

  pub output_room : (o long : ℕ) → part ≡ Output o → at + length (part_text k part v) ≤ long → at + length (switch_text (bit o (nat_abs (kept v)))) ≤ long
  unfolding part_text
  output_room o long e h = rw (to_z-of_z f) (rw e at h)

  pub wrote_whole : (r : ℕ) (l m : List ℕ) → part ≡ Whole → Wrote l at (text_of k (kept v)) r m → Wrote l at (part_text k part v) r m
  unfolding part_text
  wrote_whole r l m e w = rw e (rw (to_z-of_z f) at w)

  pub wrote_output : (o r : ℕ) (l m : List ℕ) → part ≡ Output o → Wrote l at (switch_text (bit o (nat_abs (kept v)))) r m → Wrote l at (part_text k part v) r m
  unfolding part_text
  wrote_output o r l m e w = rw e (rw (to_z-of_z f) at w)

pub ruleset part_writing = (part-some, part-most, whole_room, output_room, wrote_whole, wrote_output)
