-- The index part: a `>` with a group, once or twice.
pub mod Laws
pub mod Reading
use Rattle.std.specs.Prelude.{cond, List, [], ◌∷◌, ℕ, eqb, Option, Some, None}
use Rattle.text.specs.Cut.{has, before, after}
use Rattle.catalogue.specs.declared.groups.Groups.{Groups}
use Rattle.catalogue.specs.declared.groups.Group.{Group}
use Rattle.catalogue.specs.declared.groups.Groups.TheVariants.{OneGroup, TwoGroups}
use Rattle.syntax.specs.IndexGroup.{read_group}

-- one group
unfoldable pub one_group : Option Group → Option Groups
one_group (Some g) = Some (OneGroup g)
one_group None = None

-- two groups
unfoldable pub two_groups : Option Group → Option Group → Option Groups
two_groups (Some g) (Some h) = Some (TwoGroups g h)
two_groups (Some g) None = None
two_groups None (Some h) = None
two_groups None None = None

-- what follows the first `>`: a group alone, or a group, `>` and a group
unfoldable pub groups : List ℕ → Option Groups
groups s = cond (has 0x3E s) (two_groups (read_group (before 0x3E s)) (read_group (after 0x3E s))) (one_group (read_group s))

unfoldable pub read_indices : List ℕ → Option Groups
read_indices [] = None
read_indices (b ∷ s) = cond (eqb b 0x3E) (groups s) None
