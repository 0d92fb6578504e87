-- Comparing index groups: what the test says, and the rules for the code that makes it.
use Rattle.std.specs.Prelude.{◌≡◌, refl, false, true, ℕ, eqb}
use Rattle.std.proofs.Common.{ap}
use borrow.Author.Tests.{eq-eqb, eqb-true, ne_eqb}
use Rattle.text.specs.Every.Laws.{both_left, both_right, never}
use Rattle.catalogue.specs.Row.{same_indices}
use Rattle.catalogue.specs.declared.row.Indices.{Indices}
use Rattle.catalogue.specs.declared.row.Indices.TheVariants.{OneGroup, TwoGroups}

pub same_indices_lem : (i j : Indices) → same_indices i j ≡ true → i ≡ j
unfolding same_indices
same_indices_lem (OneGroup a) (OneGroup c) e = ap OneGroup (eqb-true a c e)
same_indices_lem (OneGroup a) (TwoGroups c d) e = never e
same_indices_lem (TwoGroups a b) (OneGroup c) e = never e
same_indices_lem (TwoGroups a b) (TwoGroups c d) e =
    let p = eqb-true a c (both_left (eqb a c) (eqb b d) e) in
    let q = eqb-true b d (both_right (eqb a c) (eqb b d) e) in
    cc

pub same_indices-refl : (i : Indices) → same_indices i i ≡ true
unfolding same_indices
same_indices-refl (OneGroup a) = eq-eqb a a refl
same_indices-refl (TwoGroups a b) = rw (eq-eqb a a refl, eq-eqb b b refl)

-- ---- the rules

module _ (a b : Indices) where
  pub one_one : (x y : ℕ) → a ≡ OneGroup x → b ≡ OneGroup y → eqb x y ≡ same_indices a b
  unfolding same_indices
  one_one x y p q = rw (p, q)

  pub one_two : (x z w : ℕ) → a ≡ OneGroup x → b ≡ TwoGroups z w → false ≡ same_indices a b
  unfolding same_indices
  one_two x z w p q = rw (p, q)

  pub two_one : (x y z : ℕ) → a ≡ TwoGroups x y → b ≡ OneGroup z → false ≡ same_indices a b
  unfolding same_indices
  two_one x y z p q = rw (p, q)

  pub two_other : (x y z w : ℕ) → a ≡ TwoGroups x y → b ≡ TwoGroups z w → (x ≡ z → ⊥) → false ≡ same_indices a b
  unfolding same_indices
  two_other x y z w p q n = rw (p, q, ne_eqb x z n)

  pub two_two : (x y z w : ℕ) → a ≡ TwoGroups x y → b ≡ TwoGroups z w → x ≡ z → eqb y w ≡ same_indices a b
  unfolding same_indices
  two_two x y z w p q e = rw (p, q, eq-eqb x z e)

pub ruleset comparing = (one_one, one_two, two_one, two_other, two_two)
