-- How index groups are written: the parts that are put down, and a rule for each return and each call of their writers.
use Rattle.std.specs.Prelude.{◌≡◌, List, [], ◌∷◌, ◌++◌, ℕ, ◌+◌, ◌≤◌, length}
use Rattle.std.proofs.Common.{append_assoc}
use native.Mathlib.Omega.{arith}
use Rattle.std.proofs.Math.ListN.{length-append}
use Rattle.text.specs.Digits.{digits}
use Rattle.text.specs.Digits.Laws.{one_digit}
use Rattle.text.specs.Written.{Wrote}
use Rattle.text.specs.Written.Laws.{wrote_join, room_first, room_second, past_by}
use Rattle.catalogue.specs.Groups.{groups_of}
use Rattle.catalogue.specs.Groups.Laws.{one_single, two_singles, one_output, two_output}
use Rattle.catalogue.specs.declared.groups.Group.TheVariants.{Single, Pair}
use Rattle.catalogue.specs.declared.groups.Groups.TheVariants.{TwoGroups}
use Rattle.catalogue.specs.declared.groups.Part.{Part}
use Rattle.catalogue.specs.declared.groups.Part.TheVariants.{Whole, Output}
use Rattle.catalogue.specs.declared.row.Indices.{Indices}
use Rattle.catalogue.specs.declared.row.Indices.TheVariants as row
use Rattle.spelling.specs.IndexText.{group_text, index_text}
use Rattle.spelling.specs.IndexText.Parts.{room_middle, room_third}

-- ---- a number and the byte after it

unfoldable pub ended_text : (n end : ℕ) → List ℕ
ended_text n end = digits n ++ (end ∷ [])

module _ (n end at : ℕ) (l : List ℕ) where
  pub ended-first : at + length (ended_text n end) ≤ length l → at + length (digits n) ≤ length l
  unfolding ended_text
  ended-first h = room_first (digits n) (end ∷ []) at (length l) h

  module _ (j : ℕ) (m : List ℕ) (v : Wrote l at (digits n) j m) where
    pub ended-second : at + length (ended_text n end) ≤ length l → j + 1 ≤ length m
    unfolding ended_text
    ended-second h = room_second (digits n) (end ∷ []) l at j m h v

    pub wrote_ended : (r : ℕ) (k : List ℕ) → Wrote m j (end ∷ []) r k → Wrote l at (ended_text n end) r k
    unfolding ended_text
    wrote_ended r k w = wrote_join v w

pub ruleset ended_writing = (ended-first, ended-second, wrote_ended)

-- ---- a pair

unfoldable pub pair_text : (a b : ℕ) → List ℕ
pair_text a b = 0x28 ∷ (ended_text a 0x2C ++ ended_text b 0x29)

module _ (a b at : ℕ) (l : List ℕ) where
  pub pair_first : at + length (pair_text a b) ≤ length l → at + 1 ≤ length l
  unfolding pair_text
  pair_first h = omega arith

  module _ (open₀ j : ℕ) (m : List ℕ) (u : Wrote l at (open₀ ∷ []) j m) where
    pub pair_second : at + length (pair_text a b) ≤ length l → j + length (ended_text a 0x2C) ≤ length m
    unfolding pair_text
    pair_second h = room_middle (open₀ ∷ []) (ended_text a 0x2C) (ended_text b 0x29) l at j m h u

    module _ (i : ℕ) (n : List ℕ) (v : Wrote m j (ended_text a 0x2C) i n) where
      pub pair_third : at + length (pair_text a b) ≤ length l → i + length (ended_text b 0x29) ≤ length n
      unfolding pair_text
      pair_third h = room_third (open₀ ∷ []) (ended_text a 0x2C) (ended_text b 0x29) l at j i m n h u v

pub wrote_pair : (a b at j i r : ℕ) (l m n k : List ℕ) → Wrote l at (0x28 ∷ []) j m → Wrote m j (ended_text a 0x2C) i n → Wrote n i (ended_text b 0x29) r k
    → Wrote l at (pair_text a b) r k
unfolding pair_text
wrote_pair a b at j i r l m n k u v w = wrote_join u (wrote_join v w)

pub ruleset pair_writing = (pair_first, pair_second, pair_third, wrote_pair)

-- ---- 4 and a pair, each after `>`

unfoldable pub cross_text : (input output : ℕ) → List ℕ
cross_text input output = 0x3E ∷ 0x34 ∷ 0x3E ∷ pair_text input output

cross_is : (a o : ℕ) → index_text (TwoGroups (Single 4) (Pair a o)) ≡ cross_text a o
unfolding index_text group_text cross_text pair_text ended_text
cross_is a o = rw (one_digit 4 (omega arith)) (simp append_assoc)

pub output_cross : (i : Indices) (a o : ℕ) → i ≡ row.OneGroup a → index_text (groups_of i (Output o)) ≡ cross_text a o
output_cross i a o e = rw (e, one_output a o) (cross_is a o)

pub output_crosses : (i : Indices) (a b o : ℕ) → i ≡ row.TwoGroups a b → index_text (groups_of i (Output o)) ≡ cross_text b o
output_crosses i a b o e = rw (e, two_output a b o) (cross_is b o)

module _ (a o at : ℕ) (l : List ℕ) where
  pub cross_first : at + length (cross_text a o) ≤ length l → at + 3 ≤ length l
  unfolding cross_text
  cross_first h = omega arith

  pub cross_second : (j : ℕ) (m : List ℕ) → at + length (cross_text a o) ≤ length l → Wrote l at (0x3E ∷ 0x34 ∷ 0x3E ∷ []) j m → j + length (pair_text a o) ≤ length m
  unfolding cross_text
  cross_second j m h w = room_second (0x3E ∷ 0x34 ∷ 0x3E ∷ []) (pair_text a o) l at j m h w

  -- there is room for the pair turned round too, so that it is refused for its bytes
  pub cross_turned : (j : ℕ) (m : List ℕ) → at + length (cross_text a o) ≤ length l → Wrote l at (0x3E ∷ 0x34 ∷ 0x3E ∷ []) j m → j + length (pair_text o a) ≤ length m
  unfolding pair_text ended_text
  cross_turned j m h w = let s = simp length-append at (cross_second j m h w) in simp length-append (omega arith)

  pub wrote_cross : (j r : ℕ) (m k : List ℕ) → Wrote l at (0x3E ∷ 0x34 ∷ 0x3E ∷ []) j m → Wrote m j (pair_text a o) r k → Wrote l at (cross_text a o) r k
  unfolding cross_text
  wrote_cross j r m k v w = wrote_join v w

pub ruleset cross_writing = (cross_first, cross_second, cross_turned, wrote_cross)

module _ (i : Indices) (part : Part) (o at : ℕ) (is : part ≡ Output o) where
  pub output_one_room : (a long : ℕ) → i ≡ row.OneGroup a → at + length (index_text (groups_of i part)) ≤ long → at + length (cross_text a o) ≤ long
  output_one_room a long e h = rw (is, output_cross i a o e) at h

  pub output_two_room : (a b long : ℕ) → i ≡ row.TwoGroups a b → at + length (index_text (groups_of i part)) ≤ long → at + length (cross_text b o) ≤ long
  output_two_room a b long e h = rw (is, output_crosses i a b o e) at h

  pub wrote_output_one : (a r : ℕ) (l m : List ℕ) → i ≡ row.OneGroup a → Wrote l at (cross_text a o) r m → Wrote l at (index_text (groups_of i part)) r m
  wrote_output_one a r l m e w = rw (is, output_cross i a o e) w

  pub wrote_output_two : (a b r : ℕ) (l m : List ℕ) → i ≡ row.TwoGroups a b → Wrote l at (cross_text b o) r m → Wrote l at (index_text (groups_of i part)) r m
  wrote_output_two a b r l m e w = rw (is, output_crosses i a b o e) w

pub ruleset output_writing = (output_one_room, output_two_room, wrote_output_one, wrote_output_two)

-- ---- a number after `>`

unfoldable pub arrow_text : ℕ → List ℕ
arrow_text n = 0x3E ∷ digits n

pub group_first : (n at long : ℕ) → at + length (arrow_text n) ≤ long → at + 1 ≤ long
unfolding arrow_text
group_first n at long h = omega arith

pub group_second : (n b at j : ℕ) (l m : List ℕ) → at + length (arrow_text n) ≤ length l → Wrote l at (b ∷ []) j m → j + length (digits n) ≤ length m
unfolding arrow_text
group_second n b at j l m h w = room_second (b ∷ []) (digits n) l at j m h w

pub wrote_group : (n at j r : ℕ) (l m k : List ℕ) → Wrote l at (0x3E ∷ []) j m → Wrote m j (digits n) r k → Wrote l at (arrow_text n) r k
unfolding arrow_text
wrote_group n at j r l m k v w = wrote_join v w

pub ruleset group_writing = (group_first, group_second, wrote_group)

-- ---- the indices of a row

pub one_text : (i : Indices) (a : ℕ) → i ≡ row.OneGroup a → index_text (groups_of i Whole) ≡ arrow_text a
unfolding index_text group_text arrow_text
one_text i a e = rw (e, one_single a)

pub two_text : (i : Indices) (a b : ℕ) → i ≡ row.TwoGroups a b → index_text (groups_of i Whole) ≡ arrow_text a ++ arrow_text b
unfolding index_text group_text arrow_text
two_text i a b e = rw (e, two_singles a b)

module _ (i : Indices) (part : Part) (at : ℕ) (is : part ≡ Whole) where
  pub one_room : (a long : ℕ) → i ≡ row.OneGroup a → at + length (index_text (groups_of i part)) ≤ long → at + length (arrow_text a) ≤ long
  one_room a long e u = rw (is, one_text i a e) at u

  pub wrote_one : (a r : ℕ) (l m : List ℕ) → i ≡ row.OneGroup a → Wrote l at (arrow_text a) r m → Wrote l at (index_text (groups_of i part)) r m
  wrote_one a r l m e w = rw (is, one_text i a e) w

  module _ (a b : ℕ) (e : i ≡ row.TwoGroups a b) where
    pub two_first : (long : ℕ) → at + length (index_text (groups_of i part)) ≤ long → at + length (arrow_text a) ≤ long
    two_first long u = room_first (arrow_text a) (arrow_text b) at long (rw (is, two_text i a b e) at u)

    -- there is room for the second index in its place too, so that one written there is refused for its bytes
    pub two_other : (long : ℕ) → at + length (index_text (groups_of i part)) ≤ long → at + length (arrow_text b) ≤ long
    two_other long u =
        let s = length-append (arrow_text a) (arrow_text b) in
        let r = rw (is, two_text i a b e) at u in
        omega arith

    module _ (j : ℕ) (l m : List ℕ) where
      pub two_second : at + length (index_text (groups_of i part)) ≤ length l → Wrote l at (arrow_text a) j m → j + length (arrow_text b) ≤ length m
      two_second u w = room_second (arrow_text a) (arrow_text b) l at j m (rw (is, two_text i a b e) at u) w

      -- and in the place of the first, once that is written
      pub two_again : at + length (index_text (groups_of i part)) ≤ length l → Wrote l at (arrow_text a) j m → at + length (arrow_text b) ≤ length m
      two_again u w = omega (arith, two_second u w, past_by w)

      pub wrote_two : (r : ℕ) (k : List ℕ) → Wrote l at (arrow_text a) j m → Wrote m j (arrow_text b) r k → Wrote l at (index_text (groups_of i part)) r k
      wrote_two r k v w = rw (is, two_text i a b e) (wrote_join v w)

pub ruleset indices_writing = (output_writing, one_room, wrote_one, two_first, two_other, two_second, two_again, wrote_two)
