-- A set line is short: its label has at most 32 bytes, its index groups and its value few digits.
use Rattle.std.specs.Prelude.{◌≡◌, refl, true, List, [], ◌∷◌, ◌++◌, ℕ, ◌≤◌, ℤ, nat_abs, length}
use Rattle.std.proofs.Common.{arith, length-append, SFits, to_z-of_z}
use Rattle.std.specs.Int.{w64}
use Rattle.text.specs.Switch.Laws.{switch-length}
use Rattle.text.specs.Word.{bit}
use Rattle.catalogue.specs.Catalogue.Sized.{sized_row}
use Rattle.catalogue.specs.Catalogue.Sized.Groups.{row_indices}
use Rattle.catalogue.specs.declared.groups.Part.{Part}
use Rattle.catalogue.specs.declared.groups.Part.TheVariants.{Whole, Output}
use Rattle.catalogue.specs.declared.row.Kind.{Kind}
use Rattle.catalogue.specs.declared.row.Kind.TheVariants as kind
use Rattle.room.specs.Label.Length.{label-short}
use Rattle.values.specs.declared.parameter.Parameter.{Parameter}
use Rattle.spelling.specs.IndexText.Short.{part-short}
use Rattle.spelling.specs.Line.Laws.{line_length}
use Rattle.spelling.specs.Say.{say, said_part}
use Rattle.spelling.specs.Say.Laws.{said_in, say-line}
use Rattle.spelling.specs.Text.{part_text, text_of}
use Rattle.spelling.specs.Text.Length.{level_text-short, number-text_short, switch_text-is, word-text_is}

value_short : (k : Kind) (x : ℤ) → SFits w64 x → length (text_of k x) ≤ 23
unfolding text_of
value_short kind.Level x f = level_text-short kind.Level x _ f (rw (to_z-of_z f) refl)
value_short kind.Switch x f = omega (arith, switch_text-is kind.Switch x refl)
value_short kind.Number x f = number-text_short kind.Number x _ f _ (rw (to_z-of_z f) refl) refl
value_short kind.Word x f = omega (arith, word-text_is kind.Word x refl)

part_text-short : (k : Kind) (part : Part) (x : ℤ) → SFits w64 x → length (part_text k part x) ≤ 23
unfolding part_text
part_text-short k Whole x f = value_short k x f
part_text-short k (Output o) x f = omega (arith, switch-length (bit o (nat_abs x)))

-- with its 0D, of a row of the catalogue and any value that the machine holds
pub say-short : (t : List ℕ) (p : Parameter) (v x : ℤ) → sized_row p.row ≡ true → SFits w64 x → length (say t p v x ++ (0x0D ∷ [])) ≤ 128
say-short t p v x h f =
    let part = said_part p.row.kind v x in
    let i = part-short p.row.indices part (row_indices p.row h) (said_in p.row.kind v x) in
    let l = label-short t p.owner _ refl in
    let k = part_text-short p.row.kind part x f in
    rw (say-line t p v x) (simp length-append (omega (arith, line_length 0x53 t p part x)))
