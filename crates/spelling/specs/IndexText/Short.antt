-- The index groups of a row's part are short.
use Rattle.std.specs.Prelude.{◌≡◌, refl, true, ℕ, ◌≤◌, ◌<◌, length}
use Rattle.std.proofs.Common.{arith, length-append}
use Rattle.text.specs.Digits.Value.{digits-short}
use Rattle.catalogue.specs.Catalogue.Sized.{sized_indices}
use Rattle.catalogue.specs.Catalogue.Sized.Groups as groups
use Rattle.catalogue.specs.Catalogue.Sized.Groups.{indices-small}
use Rattle.catalogue.specs.Groups.{PartIn, groups_of}
use Rattle.catalogue.specs.Groups.Laws.{one_single, two_singles, one_output, two_output}
use Rattle.catalogue.specs.declared.groups.Group.TheVariants.{Single, Pair}
use Rattle.catalogue.specs.declared.groups.Groups.TheVariants.{TwoGroups}
use Rattle.catalogue.specs.declared.groups.Part.{Part}
use Rattle.catalogue.specs.declared.groups.Part.TheVariants.{Whole, Output}
use Rattle.catalogue.specs.declared.row.Indices.{Indices}
use Rattle.spelling.specs.IndexText.{group_text, index_text}

pub whole-short : (i : Indices) → sized_indices i ≡ true → length (index_text (groups_of i Whole)) ≤ 5
unfolding index_text group_text
whole-short i h = go (indices-small i h)
  where
    go : {i : Indices} → groups.Small i → length (index_text (groups_of i Whole)) ≤ 5
    go (groups.one a l) = rw (one_single a) (omega (arith, digits-short a 3 (omega arith) l))
    go (groups.two a b l m) = rw (two_singles a b) (simp length-append (omega (arith, digits-short a 1 (omega arith) l, digits-short b 2 (omega arith) m)))

pair_short : (a o : ℕ) → a < 1000 → o ≤ 32 → length (index_text (TwoGroups (Single 4) (Pair a o))) ≤ 11
unfolding index_text group_text
pair_short a o l m =
    simp length-append (omega (arith, digits-short 4 1 (omega arith) (omega arith), digits-short a 3 (omega arith) l, digits-short o 2 (omega arith) (omega arith)))

pub output_short : (i : Indices) (o : ℕ) → sized_indices i ≡ true → o ≤ 32 → length (index_text (groups_of i (Output o))) ≤ 11
output_short i o h m = go (indices-small i h)
  where
    go : {i : Indices} → groups.Small i → length (index_text (groups_of i (Output o))) ≤ 11
    go (groups.one a l) = rw (one_output a o) (pair_short a o (omega arith) m)
    go (groups.two a b l n) = rw (two_output a b o) (pair_short b o (omega arith) m)

pub part-short : (i : Indices) (part : Part) → sized_indices i ≡ true → PartIn part → length (index_text (groups_of i part)) ≤ 11
part-short i Whole h u = omega (arith, whole-short i h)
part-short i (Output o) h u = output_short i o h (u.most o refl)
