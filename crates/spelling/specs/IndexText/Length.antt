-- How long the index groups of a part are: a rule for each return and each sum of the functions that measure them.
use Rattle.std.specs.Prelude.{◌≡◌, ℕ, ◌+◌, ◌≤◌, ◌<◌, ◌^◌, length}
use native.Mathlib.Omega.{arith}
use Rattle.std.proofs.Math.ListN.{length-append}
use Rattle.std.specs.Int.{w64}
use Rattle.std.proofs.Common.{Fits}
use Rattle.text.specs.Digits.{digits}
use Rattle.text.specs.Digits.Value.{digits-short}
use Rattle.catalogue.specs.Groups.{groups_of}
use Rattle.catalogue.specs.declared.groups.Part.{Part}
use Rattle.catalogue.specs.declared.groups.Part.TheVariants.{Whole, Output}
use Rattle.catalogue.specs.declared.row.Indices.{Indices}
use Rattle.catalogue.specs.declared.row.Indices.TheVariants as row
use Rattle.spelling.specs.IndexText.{index_text}
use Rattle.spelling.specs.IndexText.Writing.{arrow_text, cross_text, ended_text, output_cross, output_crosses, one_text, pair_text, two_text}

-- a number that the machine holds has at most 20 digits
digits-fit : (n r : ℕ) → Fits w64 n → r ≡ length (digits n) → r ≤ 20
digits-fit n r f e =
    let l : n < 2 ^ 64 = f.fits in
    let d = digits-short n 20 (omega arith) (omega arith) in
    omega arith

module _ (n r : ℕ) (f : Fits w64 n) (e : r ≡ length (digits n)) where
  pub group_length_fits : Fits w64 (1 + r)
  group_length_fits = let d = digits-fit n r f e in record { fits = omega arith }

  pub group_length_is : 1 + r ≡ length (arrow_text n)
  unfolding arrow_text
  group_length_is = omega arith

  pub group_length_short : 1 + r ≤ 21
  group_length_short = let d = digits-fit n r f e in omega arith

  pub cross_first_fits : Fits w64 (6 + r)
  cross_first_fits = let d = digits-fit n r f e in record { fits = omega arith }

  module _ (o s : ℕ) (h : Fits w64 o) (i : s ≡ length (digits o)) where
    pub cross_fits : Fits w64 (6 + r + s)
    cross_fits =
        let d = digits-fit n r f e in
        let c = digits-fit o s h i in
        record { fits = omega arith }

    pub cross_length_is : 6 + r + s ≡ length (cross_text n o)
    unfolding cross_text pair_text ended_text
    cross_length_is = simp length-append (omega arith)

    pub cross_length_short : 6 + r + s ≤ 46
    cross_length_short =
        let d = digits-fit n r f e in
        let c = digits-fit o s h i in
        omega arith

pub ruleset group_lengths = (group_length_fits, group_length_is, group_length_short)

pub ruleset cross_lengths = (cross_first_fits, cross_fits, cross_length_is, cross_length_short)

module _ (i : Indices) (part : Part) (r : ℕ) where
  pub one_length : (a : ℕ) → part ≡ Whole → i ≡ row.OneGroup a → r ≡ length (arrow_text a) → r ≡ length (index_text (groups_of i part))
  one_length a e k h = rw (e, one_text i a k) h

  pub two_length : (a b s : ℕ) → part ≡ Whole → i ≡ row.TwoGroups a b → r ≡ length (arrow_text a) → s ≡ length (arrow_text b) → r + s ≡ length (index_text (groups_of i part))
  two_length a b s e k g h = rw (e, two_text i a b k) (simp length-append (omega arith))

  pub output_one_length : (a o : ℕ) → part ≡ Output o → i ≡ row.OneGroup a → r ≡ length (cross_text a o) → r ≡ length (index_text (groups_of i part))
  output_one_length a o e k h = rw (e, output_cross i a o k) h

  pub output_two_length : (a b o : ℕ) → part ≡ Output o → i ≡ row.TwoGroups a b → r ≡ length (cross_text b o) → r ≡ length (index_text (groups_of i part))
  output_two_length a b o e k h = rw (e, output_crosses i a b o k) h

pub ruleset index_lengths = (one_length, two_length, output_one_length, output_two_length)
