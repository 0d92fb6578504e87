-- How a line that goes out is written: what stands before the value, the value's text, and 0D. There is room for each, and together they are the line.
use Rattle.std.specs.Prelude.{◌≡◌, List, [], ◌∷◌, ◌++◌, ℕ, ◌+◌, ◌≤◌, ℤ, pos, length}
use Rattle.std.proofs.Common.{append_assoc, arith, SFits, to_z-of_z}
use Rattle.std.proofs.Math.ListN.{length-append}
use Rattle.std.specs.Int.{w64}
use Rattle.text.specs.Level.Sign.{kept}
use Rattle.text.specs.Written.{Wrote}
use Rattle.text.specs.Written.Laws.{wrote_join, room_first}
use Rattle.catalogue.specs.declared.groups.Part.{Part}
use Rattle.values.specs.declared.parameter.Parameter.{Parameter}
use Rattle.spelling.specs.Line.{line_for}
use Rattle.spelling.specs.Name.{front}
use Rattle.spelling.specs.Name.Writing.{same-front}
use Rattle.spelling.specs.IndexText.Parts.{from_start, room_middle, room_third}
use Rattle.spelling.specs.Text.{part_text}
use Rattle.spelling.specs.Text.Parts.{part-zero}

line_parts : (verb : ℕ) (t : List ℕ) (p : Parameter) (part : Part) (v : ℤ)
    → line_for verb t p part v ++ (0x0D ∷ []) ≡ front verb t p part ++ (part_text p.row.kind part v ++ (0x0D ∷ []))
unfolding line_for
line_parts verb t p part v = append_assoc (front verb t p part) (part_text p.row.kind part v) (0x0D ∷ [])

-- ---- the parts, one after the other

module _ (verb : ℕ) (t : List ℕ) (p : Parameter) (part : Part) (v : ℤ) (l : List ℕ) (f : SFits w64 v) where
  abbrev text : List ℕ
  text = part_text p.row.kind part v

  pub wrote_line : (j i r : ℕ) (m n k : List ℕ) → Wrote l 0 (front verb t p part) j m → Wrote m j (part_text p.row.kind part (kept v)) i n
      → Wrote n i (0x0D ∷ []) r k → Wrote l 0 (line_for verb t p part v ++ (0x0D ∷ [])) r k
  wrote_line j i r m n k a b c = rw (line_parts verb t p part v) (wrote_join a (wrote_join (rw (to_z-of_z f) at b) c))

  module _ (room : length (line_for verb t p part v ++ (0x0D ∷ [])) ≤ length l) where
    whole : 0 + length (front verb t p part ++ (text ++ (0x0D ∷ []))) ≤ length l
    whole = from_start _ (length l) (rw (line_parts verb t p part v) at room)

    pub line_first : length (front verb t p part) ≤ length l
    line_first = let h = room_first (front verb t p part) (text ++ (0x0D ∷ [])) 0 (length l) whole in omega arith

    pub line_second : (j : ℕ) (m : List ℕ) → Wrote l 0 (front verb t p part) j m → j + length (part_text p.row.kind part (kept v)) ≤ length m
    line_second j m a = rw (to_z-of_z f) (room_middle (front verb t p part) text (0x0D ∷ []) l 0 j m whole a)

    pub line_third : (j i : ℕ) (m n : List ℕ) → Wrote l 0 (front verb t p part) j m → Wrote m j (part_text p.row.kind part (kept v)) i n → i + 1 ≤ length n
    line_third j i m n a b = room_third (front verb t p part) text (0x0D ∷ []) l 0 j i m n whole a (rw (to_z-of_z f) at b)

pub ruleset line_writing = (line_first, line_second, line_third, wrote_line)

-- ---- where there is room for a line

module _ (verb other : ℕ) (t : List ℕ) (p : Parameter) (part : Part) (v : ℤ) (long : ℕ) (room : length (line_for verb t p part v ++ (0x0D ∷ [])) ≤ long) where
  -- there is for the line with another verb, and for the line that says 0, so that these are refused for their bytes
  pub other_verb_room : SFits w64 v → length (line_for other t p part (kept v) ++ (0x0D ∷ [])) ≤ long
  unfolding line_for
  other_verb_room f = rw (to_z-of_z f) (simp length-append (let h = simp length-append at room in omega (arith, same-front other verb t p part)))

  pub zero_room : length (line_for other t p part (pos 0) ++ (0x0D ∷ [])) ≤ long
  unfolding line_for
  zero_room = simp length-append (let h = simp length-append at room in omega (arith, same-front other verb t p part, part-zero p.row.kind part v))
