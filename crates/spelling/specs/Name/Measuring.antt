-- How long names are: a rule for each return and each sum of the functions that measure them.
use Rattle.std.specs.Prelude.{◌≡◌, List, ℕ, ◌+◌, ◌≤◌, length}
use Rattle.std.proofs.Common.{arith, Fits}
use Rattle.std.proofs.Math.ListN.{length-append}
use Rattle.std.specs.Int.{w64}
use Rattle.catalogue.specs.Groups.{groups_of}
use Rattle.catalogue.specs.declared.groups.Part.{Part}
use Rattle.room.specs.Label.{label}
use Rattle.room.specs.Label.Length.{label-short}
use Rattle.values.specs.declared.parameter.Parameter.{Parameter}
use Rattle.spelling.specs.Name.{name}
use Rattle.spelling.specs.IndexText.{index_text}

module _ (t : List ℕ) (p : Parameter) (part : Part) (n : ℕ) (e : n ≡ length (label t p.owner)) where
  pub label-length_fits : Fits w64 (2 + n)
  label-length_fits = let s = label-short t p.owner n e in record { fits = omega arith }

  pub name-length_fits : (r : ℕ) → r ≤ 46 → Fits w64 (2 + n + r)
  name-length_fits r h = let s = label-short t p.owner n e in record { fits = omega arith }

  pub name-length_is : (r : ℕ) → r ≡ length (index_text (groups_of p.row.indices part)) → 2 + n + r ≡ length (name t p part)
  unfolding name
  name-length_is r h = simp length-append (omega arith)

  pub name-length_short : (r : ℕ) → r ≤ 46 → 2 + n + r ≤ 80
  name-length_short r h = let s = label-short t p.owner n e in omega arith

pub ruleset name_lengths = (label-length_fits, name-length_fits, name-length_is, name-length_short)
