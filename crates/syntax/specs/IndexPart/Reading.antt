-- Rules for the code that reads an index part.
use Rattle.std.specs.Prelude.{◌≡◌, List, [], ◌∷◌, ℕ, suc, ◌+◌, ◌-◌, ◌<◌, ◌≤◌, length, get_or, take, drop, Option, Some, None}
use Rattle.std.proofs.Math.Path.{refl, sym}
use Rattle.std.proofs.Common.{ap, ◌∙◌, arith, eq-eqb, ne_eqb, take_all}
use Rattle.text.specs.Cut.{index_of}
use Rattle.text.specs.Cut.Found.{after-found, before-found, has-found, has-none}
use Rattle.text.specs.Number.{read_number}
use Rattle.catalogue.specs.declared.groups.Groups.{Groups}
use Rattle.catalogue.specs.declared.groups.Group.{Group}
use Rattle.catalogue.specs.declared.groups.Group.TheVariants.{Single}
use Rattle.catalogue.specs.declared.groups.Groups.TheVariants.{OneGroup, TwoGroups}
use Rattle.syntax.specs.IndexGroup.{read_group, read_pair}
use Rattle.syntax.specs.IndexGroup.Reading.{a-number, a_pair, cut_length}
use Rattle.syntax.specs.IndexPart.{one_group, two_groups, groups, read_indices}

-- ---- one group, two groups

pub one_right : (s : List ℕ) (x : Option Group) (g : Group) → x ≡ read_pair s → x ≡ Some g → Some (OneGroup g) ≡ one_group (read_pair s)
unfolding one_group
one_right s x g e k = rw (sym e ∙ k)

pub one_wrong : (s : List ℕ) (x : Option Group) → x ≡ read_pair s → x ≡ None → None ≡ one_group (read_pair s)
unfolding one_group
one_wrong s x e k = rw (sym e ∙ k)

module _ (s : List ℕ) (n : Option ℕ) (e : n ≡ read_number 3 s) where
  pub one_number : (a : ℕ) → n ≡ Some a → Some (OneGroup (Single a)) ≡ one_group (read_group s)
  unfolding one_group
  one_number a h = rw (sym (a-number s n e a h))

  pub one_pair : (r : Option Groups) → n ≡ None → r ≡ one_group (read_pair s) → r ≡ one_group (read_group s)
  one_pair r h q = q ∙ ap one_group (a_pair s n e (read_pair s) h refl)

module _ (s u : List ℕ) (x : Option Group) (e : x ≡ read_group s) where
  pub two_right : (y : Option Group) (g h : Group) → y ≡ read_group u → x ≡ Some g → y ≡ Some h
      → Some (TwoGroups g h) ≡ two_groups (read_group s) (read_group u)
  unfolding two_groups
  two_right y g h f k l = rw (sym e ∙ k, sym f ∙ l)

  pub second_wrong : (y : Option Group) (g : Group) → y ≡ read_group u → x ≡ Some g → y ≡ None
      → None ≡ two_groups (read_group s) (read_group u)
  unfolding two_groups
  second_wrong y g f k l = rw (sym e ∙ k, sym f ∙ l)

  pub first-wrong : x ≡ None → None ≡ two_groups (read_group s) (read_group u)
  unfolding two_groups
  first-wrong k = rw (sym e ∙ k) (go (read_group u))
    where
      go : (y : Option Group) → None ≡ two_groups None y
      go (Some h) = refl
      go None = refl

pub ruleset one_rules = (one_number, one_pair)

pub ruleset pair_rules = (one_right, one_wrong)

pub ruleset two_rules = (two_right, second_wrong, first-wrong)

-- ---- behind the first `>`

pub parted : (s : List ℕ) (i : ℕ) (r : Option Groups) → i ≡ index_of 0x3E s → i < length s
    → r ≡ two_groups (read_group (take i s)) (read_group (take (length s - (i + 1)) (drop (i + 1) s))) → r ≡ groups s
unfolding groups
parted s i r e l h = h ∙ rw (has-found 0x3E s i e l, before-found 0x3E s i e, after-found 0x3E s i e)

pub whole : (s : List ℕ) (i : ℕ) (r : Option Groups) → i ≡ index_of 0x3E s → length s ≤ i → r ≡ one_group (read_group s) → r ≡ groups s
unfolding groups
whole s i r e l h = h ∙ rw (has-none 0x3E s i e l)

pub ruleset groups-rules = (cut_length, parted, whole)

-- ---- the whole part

pub no_group : (s : List ℕ) → length s ≡ 0 → None ≡ read_indices s
unfolding read_indices
no_group [] h = refl
no_group (b ∷ s) h = absurd (omega arith)

pub no_arrow : (s : List ℕ) → (length s ≡ 0 → ⊥) → (get_or s 0 0 ≡ 0x3E → ⊥) → None ≡ read_indices s
unfolding read_indices
no_arrow [] h e = refl
no_arrow (b ∷ s) h e = rw (ne_eqb b 0x3E e)

pub arrow : (s : List ℕ) (r : Option Groups) → (length s ≡ 0 → ⊥) → get_or s 0 0 ≡ 0x3E → r ≡ groups (take (length s - 1) (drop 1 s)) → r ≡ read_indices s
unfolding read_indices
arrow [] r h e q = absurd (h refl)
arrow (b ∷ s) r h e q = q ∙ rw (take_all (suc (length s) - 1) s (omega arith), eq-eqb b 0x3E e)

pub ruleset indices-rules = (no_group, no_arrow, arrow)
