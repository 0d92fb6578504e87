-- Index groups as they are written read back, and no text that says them is shorter.
use Rattle.std.specs.Prelude.{◌≡◌, refl, true, List, ℕ, ◌≤◌, ◌<◌, length, Some}
use Rattle.std.proofs.Common.{arith, length-append}
use Rattle.text.specs.Digits.{digits}
use Rattle.text.specs.Number.Laws.{number-back, number-shortest}
use Rattle.catalogue.specs.Catalogue.Sized.{sized_indices}
use Rattle.catalogue.specs.Catalogue.Sized.Groups as row
use Rattle.catalogue.specs.Catalogue.Sized.Groups.{indices-small}
use Rattle.catalogue.specs.Groups.{PartIn, groups_of}
use Rattle.catalogue.specs.Groups.Laws.{one_single, two_singles, one_output, two_output}
use Rattle.catalogue.specs.declared.groups.Group.{Group}
use Rattle.catalogue.specs.declared.groups.Group.TheVariants.{Single, Pair}
use Rattle.catalogue.specs.declared.groups.Groups.{Groups}
use Rattle.catalogue.specs.declared.groups.Groups.TheVariants.{OneGroup, TwoGroups}
use Rattle.catalogue.specs.declared.groups.Part.{Part}
use Rattle.catalogue.specs.declared.groups.Part.TheVariants.{Whole, Output}
use Rattle.catalogue.specs.declared.row.Indices.{Indices}
use Rattle.syntax.specs.IndexGroup.Laws.{GroupSays, single, pair}
use Rattle.syntax.specs.IndexPart.{read_indices}
use Rattle.syntax.specs.IndexPart.Laws.{Says, one, two, indices-said, indices-told}
use Rattle.spelling.specs.IndexText.{group_text, index_text}
use Rattle.spelling.specs.IndexText.Laws.{number-group, pair_group, one_group_lem, two_groups_lem}

-- ---- numbers of at most three digits

pub data Few : Group → Type 0 where
  number : (a : ℕ) → a < 1000 → Few (Single a)
  numbers : (a b : ℕ) → a < 1000 → b < 1000 → Few (Pair a b)

pub data Small : Groups → Type 0 where
  alone : (g : Group) → Few g → Small (OneGroup g)
  both : (g h : Group) → Few g → Few h → Small (TwoGroups g h)

pair_small : (a o : ℕ) → a < 1000 → o ≤ 32 → Small (TwoGroups (Single 4) (Pair a o))
pair_small a o l m = both (Single 4) (Pair a o) (number 4 (omega arith)) (numbers a o l (omega arith))

-- the groups of a row's part are such
pub row_small : (i : Indices) (u : Part) → sized_indices i ≡ true → PartIn u → Small (groups_of i u)
row_small i u h k = go u (indices-small i h) k
  where
    go : {i : Indices} (u : Part) → row.Small i → PartIn u → Small (groups_of i u)
    go Whole (row.one a l) k = rw (one_single a) (alone (Single a) (number a l))
    go Whole (row.two a b l m) k = rw (two_singles a b) (both (Single a) (Single b) (number a (omega arith)) (number b (omega arith)))
    go (Output o) (row.one a l) k = rw (one_output a o) (pair_small a o l (k.most o refl))
    go (Output o) (row.two a b l m) k = rw (two_output a b o) (pair_small b o (omega arith) (k.most o refl))

-- ---- what is written reads back

group_back : {g : Group} → Few g → GroupSays (group_text g) g
group_back (number a l) = rw (number-group a) (single a (number-back 3 a (omega arith) l))
group_back (numbers a b l m) = pair (digits a) (digits b) a b (pair_group a b) (number-back 3 a (omega arith) l) (number-back 3 b (omega arith) m)

pub indices-back : (i : Groups) → Small i → read_indices (index_text i) ≡ Some i
indices-back i h = indices-said (index_text i) i (go h)
  where
    go : {i : Groups} → Small i → Says (index_text i) i
    go (alone g f) = one (group_text g) g (one_group_lem g) (group_back f)
    go (both g h e f) = two (group_text g) (group_text h) g h (two_groups_lem g h) (group_back e) (group_back f)

-- ---- and is the shortest

group_shortest : (s : List ℕ) {g : Group} → GroupSays s g → length (group_text g) ≤ length s
group_shortest s (single a e) = rw (number-group a) (number-shortest 3 s a e)
group_shortest s (pair u w a b p e f) =
    rw (pair_group a b, p) (simp length-append (omega (arith, number-shortest 3 u a e, number-shortest 3 w b f)))

pub indices-shortest : (s : List ℕ) (i : Groups) → read_indices s ≡ Some i → length (index_text i) ≤ length s
indices-shortest s i h = go (indices-told s i h)
  where
    go : {i : Groups} → Says s i → length (index_text i) ≤ length s
    go (one u g p e) = rw (one_group_lem g, p) (omega (arith, group_shortest u e))
    go (two u w g h p e f) = rw (two_groups_lem g h, p) (simp length-append (omega (arith, group_shortest u e, group_shortest w f)))
