-- Rules for the code that starts a script: a table that was tested, and the start values over it.
use Rattle.std.specs.Prelude.{◌≡◌, refl, Bool, true, false, not, List, ℕ, ℤ, take}
use Rattle.std.proofs.Common.{sym, ap, ◌∙◌}
use Rattle.std.proofs.lemmas.Bool.{not-true}
use Rattle.text.specs.Cut.Part.{part-counts}
use Rattle.text.specs.Every.Laws.{test_held}
use Rattle.room.specs.Table.{sound}
use Rattle.values.specs.Room.{room_of}
use Rattle.values.specs.Starts.{Started}
use Rattle.values.specs.Starts.Right.{started, started_first}
use Rattle.worked.specs.Script.{counted, outcome, tally, told}
use Rattle.worked.specs.declared.play.Tally.{Tally}

pub unsound_none : (t script : List ℕ) (b : Bool) → b ≡ sound t → not b ≡ true → record { right = 0; at = 0 } ≡ tally t script
unfolding tally
unsound_none t script b e n = let s : sound t ≡ false = sym e ∙ not-true b n in rw s refl

pub started_tally : (t : List ℕ) (before : List ℤ) (n : ℕ) (after : List ℤ) → Started t before n after → (script : List ℕ) (r : Tally) (vs : List ℤ)
    → sound t ≡ true → told r vs ≡ outcome (room_of t) (take n after) script → r ≡ tally t script
unfolding tally told counted
started_tally t before n after s script r vs h e = rw h (ap counted (rw (started_first t before n after s) at e))

pub ruleset starting = (test_held, part-counts, started, unsound_none, started_tally)
