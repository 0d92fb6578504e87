-- Index groups as a line writes them.
pub mod Laws
pub mod Length
pub mod Parts
pub mod Short
pub mod Writing
use Rattle.std.specs.Prelude.{List, [], ◌∷◌, ◌++◌, ℕ}
use Rattle.text.specs.Digits.{digits}
use Rattle.catalogue.specs.declared.groups.Group.{Group}
use Rattle.catalogue.specs.declared.groups.Group.TheVariants.{Single, Pair}
use Rattle.catalogue.specs.declared.groups.Groups.{Groups}
use Rattle.catalogue.specs.declared.groups.Groups.TheVariants.{OneGroup, TwoGroups}

-- a number without leading zeros, or two in parentheses with a comma between them
unfoldable pub group_text : Group → List ℕ
group_text (Single a) = digits a
group_text (Pair a b) = 0x28 ∷ (digits a ++ (0x2C ∷ (digits b ++ (0x29 ∷ []))))

-- the groups, a `>` before each
unfoldable pub index_text : Groups → List ℕ
index_text (OneGroup g) = 0x3E ∷ group_text g
index_text (TwoGroups g h) = 0x3E ∷ (group_text g ++ (0x3E ∷ group_text h))
