-- An index group: a number of one to three digits, or two such numbers in parentheses with a comma between them.
pub mod Laws
pub mod Reading
use Rattle.std.specs.Prelude.{cond, List, [], ◌∷◌, ℕ, ◌+◌, eqb, length, Option, Some, None}
use Rattle.text.specs.Cut.{index_of, has, before, after}
use Rattle.text.specs.Number.{read_number}
use Rattle.catalogue.specs.declared.groups.Group.{Group}
use Rattle.catalogue.specs.declared.groups.Group.TheVariants.{Single, Pair}

-- a pair's numbers
unfoldable pub pair_of : Option ℕ → Option ℕ → Option Group
pair_of (Some a) (Some b) = Some (Pair a b)
pair_of (Some a) None = None
pair_of None (Some b) = None
pair_of None None = None

-- what stands before a pair's comma, and behind it: there the first `)` is the last byte
unfoldable pub closed_pair : List ℕ → List ℕ → Option Group
closed_pair first rest = cond (eqb (index_of 0x29 rest + 1) (length rest)) (pair_of (read_number 3 first) (read_number 3 (before 0x29 rest))) None

-- behind the `(`
unfoldable pub inside_pair : List ℕ → Option Group
inside_pair s = cond (has 0x2C s) (closed_pair (before 0x2C s) (after 0x2C s)) None

unfoldable pub read_pair : List ℕ → Option Group
read_pair [] = None
read_pair (b ∷ s) = cond (eqb b 0x28) (inside_pair s) None

-- a number, or else a pair
unfoldable pub or_pair : Option ℕ → List ℕ → Option Group
or_pair (Some a) s = Some (Single a)
or_pair None s = read_pair s

unfoldable pub read_group : List ℕ → Option Group
read_group s = or_pair (read_number 3 s) s
