-- Writing into the part of a buffer that is left: what a writer leaves of the lent part is what it leaves of the whole.
use Rattle.std.specs.Prelude.{◌≡◌, List, [], ◌∷◌, ◌++◌, ℕ, ◌+◌, ◌-◌, ◌≤◌, ◌<◌, length, take, drop, ℤ}
use Rattle.std.proofs.Common.{arith, length-drop, to_z-of_z, Fits, SFits, of_z, to_z}
use borrow.Author.Rules.{part_to_end}
use borrow.Rule.Slice.PartMut.{put_mid}
use Rattle.std.specs.Int.{w64}
use Rattle.text.specs.Written.{Wrote}
use Rattle.text.specs.Written.Laws.{wrote_length, lent_wrote, past_by}
use Rattle.values.specs.declared.parameter.Parameter.{Parameter}
use Rattle.catalogue.specs.declared.groups.Part.TheVariants.{Whole}
use Rattle.spelling.specs.Line.{line_for}
use Rattle.spelling.specs.Say.{say}

-- ---- a set line, handed on as the code keeps its values

module _ (t : List ℕ) (p : Parameter) (from to : ℤ) (l : List ℕ) (at : ℕ) (f : SFits w64 from) (g : SFits w64 to)
    (h : at + length (say t p from to ++ (0x0D ∷ [])) ≤ length l) where
  pub line_within : at ≤ length l
  line_within = omega arith

  pub line_room : length (say t p (to_z w64 (of_z w64 from)) (to_z w64 (of_z w64 to)) ++ (0x0D ∷ [])) ≤ length (take (length l - at) (drop at l))
  line_room = rw (to_z-of_z f, to_z-of_z g, part_to_end l at, length-drop at l) (omega arith)

  module _ (r : ℕ) (part : List ℕ) (w : Wrote (take (length l - at) (drop at l)) 0 (say t p (to_z w64 (of_z w64 from)) (to_z w64 (of_z w64 to)) ++ (0x0D ∷ [])) r part) where
    pub line_wrote : Wrote l at (say t p from to ++ (0x0D ∷ [])) (at + r) (put_mid at (length l - at) l part)
    line_wrote = lent_wrote l part at r (say t p from to ++ (0x0D ∷ [])) h (rw (to_z-of_z f, to_z-of_z g) at w)

    pub line_fits : length l < 18446744073709551616 → Fits w64 (at + r)
    line_fits b = record { fits = omega (arith, past_by line_wrote) }

    pub line_length : length (put_mid at (length l - at) l part) ≡ length l
    line_length = wrote_length line_wrote

-- ---- the same for the line that says a whole value

module _ (t : List ℕ) (p : Parameter) (to : ℤ) (l : List ℕ) (at : ℕ) (g : SFits w64 to)
    (h : at + length (line_for 0x53 t p Whole to ++ (0x0D ∷ [])) ≤ length l) where
  pub whole-within : at ≤ length l
  whole-within = omega arith

  pub whole_room : length (line_for 0x53 t p Whole (to_z w64 (of_z w64 to)) ++ (0x0D ∷ [])) ≤ length (take (length l - at) (drop at l))
  whole_room = rw (to_z-of_z g, part_to_end l at, length-drop at l) (omega arith)

  module _ (r : ℕ) (part : List ℕ) (w : Wrote (take (length l - at) (drop at l)) 0 (line_for 0x53 t p Whole (to_z w64 (of_z w64 to)) ++ (0x0D ∷ [])) r part) where
    pub whole-wrote : Wrote l at (line_for 0x53 t p Whole to ++ (0x0D ∷ [])) (at + r) (put_mid at (length l - at) l part)
    whole-wrote = lent_wrote l part at r (line_for 0x53 t p Whole to ++ (0x0D ∷ [])) h (rw (to_z-of_z g) at w)

    pub whole-fits : length l < 18446744073709551616 → Fits w64 (at + r)
    whole-fits b = record { fits = omega (arith, past_by whole-wrote) }

    pub whole_length : length (put_mid at (length l - at) l part) ≡ length l
    whole_length = wrote_length whole-wrote

pub ruleset whole-lending = (whole-within, whole_room, whole-wrote, whole-fits, whole_length)

pub ruleset lending = (line_within, line_room, line_wrote, line_fits, line_length)
