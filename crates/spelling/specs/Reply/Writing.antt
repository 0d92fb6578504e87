-- How the answer to a get line is written: a rule for each call and each return.
use Rattle.std.specs.Prelude.{List, [], ◌∷◌, ◌++◌, ℕ, ◌≤◌, ℤ, pos, length}
use Rattle.std.specs.Int.{w64}
use Rattle.std.proofs.Common.{SFits, to_z-of_z}
use Rattle.text.specs.Level.Sign.{kept}
use Rattle.text.specs.Written.{Wrote}
use Rattle.catalogue.specs.declared.groups.Part.{Part}
use Rattle.values.specs.declared.parameter.Parameter.{Parameter}
use Rattle.room.specs.Label.Length.{label-long}
use Rattle.spelling.specs.Line.{line_for}
use Rattle.spelling.specs.Line.Writing.{other_verb_room, zero_room}
use Rattle.spelling.specs.Reply.{get_reply}

module _ (verb : ℕ) (t : List ℕ) (p : Parameter) (part : Part) (v : ℤ) (long : ℕ) where
  pub get_room : SFits w64 v → length (get_reply t p part v) ≤ long → length (line_for verb t p part (kept v) ++ (0x0D ∷ [])) ≤ long
  unfolding get_reply
  get_room f h = other_verb_room 0x47 verb t p part v long h f

  pub get_zero_room : length (get_reply t p part v) ≤ long → length (line_for verb t p part (pos 0) ++ (0x0D ∷ [])) ≤ long
  unfolding get_reply
  get_zero_room h = zero_room 0x47 verb t p part v long h

pub wrote_get : (t : List ℕ) (p : Parameter) (part : Part) (v : ℤ) (r : ℕ) (l m : List ℕ) → SFits w64 v → Wrote l 0 (line_for 0x47 t p part (kept v) ++ (0x0D ∷ [])) r m
    → Wrote l 0 (get_reply t p part v) r m
unfolding get_reply
wrote_get t p part v r l m f w = rw (to_z-of_z f) at w

pub ruleset get_writing = (label-long, get_room, get_zero_room, wrote_get)
