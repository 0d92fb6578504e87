-- Index groups, and the groups with which a line names a row.
pub mod Laws
use Rattle.std.specs.Prelude.{◌≡◌, ℕ, ◌≤◌}
use Rattle.catalogue.specs.declared.groups.Group.TheVariants.{Single, Pair}
use Rattle.catalogue.specs.declared.groups.Groups.{Groups}
use Rattle.catalogue.specs.declared.groups.Groups.TheVariants.{OneGroup, TwoGroups}
use Rattle.catalogue.specs.declared.groups.Part.{Part}
use Rattle.catalogue.specs.declared.groups.Part.TheVariants.{Whole, Output}
use Rattle.catalogue.specs.declared.row.Indices.{Indices}
use Rattle.catalogue.specs.declared.row.Indices.TheVariants as row

-- the groups with which a line names a row: the whole by its indices, each a number; an output of a routing word by 4 and the pair (input, output),
-- the input being the row's last index
unfoldable pub groups_of : Indices → Part → Groups
groups_of (row.OneGroup a) Whole = OneGroup (Single a)
groups_of (row.OneGroup a) (Output o) = TwoGroups (Single 4) (Pair a o)
groups_of (row.TwoGroups a b) Whole = TwoGroups (Single a) (Single b)
groups_of (row.TwoGroups a b) (Output o) = TwoGroups (Single 4) (Pair b o)

-- an output is one of 32
pub record PartIn (part : Part) : Type 0 where
  pub some : (o : ℕ) → part ≡ Output o → 1 ≤ o
  pub most : (o : ℕ) → part ≡ Output o → o ≤ 32
