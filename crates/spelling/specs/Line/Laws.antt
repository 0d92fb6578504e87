-- What a line that goes out is made of, how long it is, and that it is a byte sequence.
use Rattle.std.specs.Prelude.{◌≡◌, true, ℕ, ◌+◌, ◌<◌, ℤ, length}
use mathlib.Core.List.{List, ◌∷◌, ◌++◌, append_assoc}
use Rattle.std.proofs.Common.{arith, length-append}
use Rattle.text.specs.Byte.{is_byte}
use Rattle.text.specs.Byte.Laws.{byte_first}
use Rattle.text.specs.Byte.Values.{are_bytes}
use Rattle.text.specs.Every.{every}
use Rattle.text.specs.Every.Laws.{every_append}
use Rattle.catalogue.specs.Groups.{groups_of}
use Rattle.catalogue.specs.declared.groups.Part.{Part}
use Rattle.room.specs.Label.{label}
use Rattle.values.specs.declared.parameter.Parameter.{Parameter}
use Rattle.spelling.specs.IndexText.{index_text}
use Rattle.spelling.specs.IndexText.Laws.{indices-bytes}
use Rattle.spelling.specs.Line.{line_for}
use Rattle.spelling.specs.Name.{front, name}
use Rattle.spelling.specs.Text.{part_text}
use Rattle.spelling.specs.Text.Parts.{part_bytes}

module _ (verb : ℕ) (t : List ℕ) (p : Parameter) (part : Part) (v : ℤ) where
  abbrev of : List ℕ
  of = label t p.owner

  abbrev indices : List ℕ
  indices = index_text (groups_of p.row.indices part)

  abbrev text : List ℕ
  text = part_text p.row.kind part v

  -- the verb, the label between quotes, the index groups, `=` and the text of the part
  pub line_spelled : line_for verb t p part v ≡ verb ∷ 0x41 ∷ 0x22 ∷ (label t p.owner ++ (0x22 ∷ (index_text (groups_of p.row.indices part) ++ (0x3D ∷ part_text p.row.kind part v))))
  unfolding line_for front name
  line_spelled = simp append_assoc

  pub line_length : length (line_for verb t p part v) ≡ 5 + length (label t p.owner) + length (index_text (groups_of p.row.indices part)) + length (part_text p.row.kind part v)
  line_length = rw line_spelled (simp length-append (omega arith))

  pub line_bytes : verb < 256 → every is_byte (label t p.owner) ≡ true → every is_byte (line_for verb t p part v) ≡ true
  line_bytes b h =
      let valued = byte_first 0x3D text (omega arith) (are_bytes text (part_bytes p.row.kind part v)) in
      let named = byte_first 0x22 (indices ++ (0x3D ∷ text)) (omega arith) (every_append is_byte indices (0x3D ∷ text) (indices-bytes (groups_of p.row.indices part)) valued) in
      let quoted = every_append is_byte of (0x22 ∷ (indices ++ (0x3D ∷ text))) h named in
      rw line_spelled (byte_first verb _ b (byte_first 0x41 _ (omega arith) (byte_first 0x22 _ (omega arith) quoted)))
