-- Laws of index groups as a line writes them: what they are, and which bytes they have.
use Rattle.std.specs.Prelude.{◌≡◌, refl, true, false, ℕ, length}
use mathlib.Core.List.{[], ◌∷◌, ◌++◌}
use Rattle.std.proofs.Common.{arith}
use Rattle.text.specs.Byte.{is_byte}
use Rattle.text.specs.Byte.Laws.{byte_first}
use Rattle.text.specs.Byte.Values.{value_byte, are_bytes, digits-bytes, no_other}
use Rattle.text.specs.Cut.{index_of}
use Rattle.text.specs.Cut.Lacking.{lacks_append, lacks_cons}
use Rattle.text.specs.Cut.Laws.{index_within}
use Rattle.text.specs.Digits.{digits}
use Rattle.text.specs.Every.{every}
use Rattle.text.specs.Every.Laws.{every_append, every-nil}
use Rattle.catalogue.specs.declared.groups.Group.{Group}
use Rattle.catalogue.specs.declared.groups.Group.TheVariants.{Single, Pair}
use Rattle.catalogue.specs.declared.groups.Groups.{Groups}
use Rattle.catalogue.specs.declared.groups.Groups.TheVariants.{OneGroup, TwoGroups}
use Rattle.spelling.specs.IndexText.{group_text, index_text}

pub number-group : (a : ℕ) → group_text (Single a) ≡ digits a
unfolding group_text
number-group a = refl

pub pair_group : (a b : ℕ) → group_text (Pair a b) ≡ 0x28 ∷ (digits a ++ (0x2C ∷ (digits b ++ (0x29 ∷ []))))
unfolding group_text
pair_group a b = refl

pub one_group_lem : (g : Group) → index_text (OneGroup g) ≡ 0x3E ∷ group_text g
unfolding index_text
one_group_lem g = refl

pub two_groups_lem : (g h : Group) → index_text (TwoGroups g h) ≡ 0x3E ∷ (group_text g ++ (0x3E ∷ group_text h))
unfolding index_text
two_groups_lem g h = refl

-- ---- their bytes

group_bytes : (g : Group) → every is_byte (group_text g) ≡ true
unfolding group_text
group_bytes (Single a) = are_bytes (digits a) (digits-bytes a)
group_bytes (Pair a b) =
    let closed = every_append is_byte (digits b) (0x29 ∷ []) (are_bytes (digits b) (digits-bytes b)) (byte_first 0x29 [] (omega arith) (every-nil is_byte)) in
    let divided = byte_first 0x2C (digits b ++ (0x29 ∷ [])) (omega arith) closed in
    byte_first 0x28 _ (omega arith) (every_append is_byte (digits a) (0x2C ∷ (digits b ++ (0x29 ∷ []))) (are_bytes (digits a) (digits-bytes a)) divided)

arrow_bytes : (g : Group) → every is_byte (0x3E ∷ group_text g) ≡ true
arrow_bytes g = byte_first 0x3E (group_text g) (omega arith) (group_bytes g)

pub indices-bytes : (i : Groups) → every is_byte (index_text i) ≡ true
unfolding index_text
indices-bytes (OneGroup g) = arrow_bytes g
indices-bytes (TwoGroups g h) = every_append is_byte (0x3E ∷ group_text g) (0x3E ∷ group_text h) (arrow_bytes g) (arrow_bytes h)

-- a byte that is no value's, no `>` and none of a pair's is not among them
pub record Foreign (b : ℕ) : Type 0 where
  pub other : value_byte b ≡ false
  pub no_arrow : 0x3E ≡ b → ⊥
  pub no_opening : 0x28 ≡ b → ⊥
  pub no_comma : 0x2C ≡ b → ⊥
  pub no_closing : 0x29 ≡ b → ⊥

module _ (b : ℕ) (f : Foreign b) where
  digits-lack : (n : ℕ) → index_of b (digits n) ≡ length (digits n)
  digits-lack n = no_other b (digits n) f.other (digits-bytes n)

  group_lacks : (g : Group) → index_of b (group_text g) ≡ length (group_text g)
  unfolding group_text
  group_lacks (Single a) = digits-lack a
  group_lacks (Pair a c) =
      let closed = lacks_cons b 0x29 [] f.no_closing (let z = index_within b [] in omega arith) in
      let second = lacks_append b (digits c) (0x29 ∷ []) (digits-lack c) closed in
      lacks_cons b 0x28 _ f.no_opening (lacks_append b (digits a) _ (digits-lack a) (lacks_cons b 0x2C _ f.no_comma second))

  arrow_lacks : (g : Group) → index_of b (0x3E ∷ group_text g) ≡ length (0x3E ∷ group_text g)
  arrow_lacks g = lacks_cons b 0x3E (group_text g) f.no_arrow (group_lacks g)

  pub indices-lack : (i : Groups) → index_of b (index_text i) ≡ length (index_text i)
  unfolding index_text
  indices-lack (OneGroup g) = arrow_lacks g
  indices-lack (TwoGroups g h) = lacks_append b (0x3E ∷ group_text g) (0x3E ∷ group_text h) (arrow_lacks g) (arrow_lacks h)
