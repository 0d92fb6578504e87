-- The groups of a row with one index, and with two, by the part that is named.
use Rattle.std.specs.Prelude.{◌≡◌, refl, ℕ}
use Rattle.catalogue.specs.Groups.{groups_of}
use Rattle.catalogue.specs.declared.groups.Group.TheVariants.{Single, Pair}
use Rattle.catalogue.specs.declared.groups.Groups.TheVariants.{OneGroup, TwoGroups}
use Rattle.catalogue.specs.declared.groups.Part.TheVariants.{Whole, Output}
use Rattle.catalogue.specs.declared.row.Indices.TheVariants as row

pub one_single : (a : ℕ) → groups_of (row.OneGroup a) Whole ≡ OneGroup (Single a)
unfolding groups_of
one_single a = refl

pub two_singles : (a b : ℕ) → groups_of (row.TwoGroups a b) Whole ≡ TwoGroups (Single a) (Single b)
unfolding groups_of
two_singles a b = refl

pub one_output : (a o : ℕ) → groups_of (row.OneGroup a) (Output o) ≡ TwoGroups (Single 4) (Pair a o)
unfolding groups_of
one_output a o = refl

pub two_output : (a b o : ℕ) → groups_of (row.TwoGroups a b) (Output o) ≡ TwoGroups (Single 4) (Pair b o)
unfolding groups_of
two_output a b o = refl
