-- Rules for the code that reads an index group.
use Rattle.std.specs.Prelude.{◌≡◌, List, [], ◌∷◌, ℕ, suc, ◌+◌, ◌-◌, ◌<◌, ◌≤◌, length, get_or, take, drop, Option, Some, None}
use Rattle.std.proofs.Math.Path.{refl, sym}
use Rattle.std.proofs.Common.{◌∙◌, arith, length-take, take_all}
use borrow.Author.Tests.{eq-eqb, ne_eqb}
use Rattle.text.specs.Cut.{index_of}
use Rattle.text.specs.Cut.Found.{after-found, before-found, has-found, has-none}
use Rattle.text.specs.Cut.Laws.{index_within}
use Rattle.text.specs.Number.{read_number}
use Rattle.catalogue.specs.declared.groups.Group.{Group}
use Rattle.catalogue.specs.declared.groups.Group.TheVariants.{Single, Pair}
use Rattle.syntax.specs.IndexGroup.{pair_of, closed_pair, inside_pair, read_pair, or_pair, read_group}

-- ---- a pair's numbers

module _ (s u : List ℕ) (m : Option ℕ) (e : m ≡ read_number 3 s) where
  pub pair_right : (n : Option ℕ) (a b : ℕ) → n ≡ read_number 3 u → m ≡ Some a → n ≡ Some b
      → Some (Pair a b) ≡ pair_of (read_number 3 s) (read_number 3 u)
  unfolding pair_of
  pair_right n a b f h g = rw (sym e ∙ h, sym f ∙ g)

  pub other_wrong : (n : Option ℕ) (a : ℕ) → n ≡ read_number 3 u → m ≡ Some a → n ≡ None
      → None ≡ pair_of (read_number 3 s) (read_number 3 u)
  unfolding pair_of
  other_wrong n a f h g = rw (sym e ∙ h, sym f ∙ g)

  pub number-wrong : m ≡ None → None ≡ pair_of (read_number 3 s) (read_number 3 u)
  unfolding pair_of
  number-wrong h = rw (sym e ∙ h) (go (read_number 3 u))
    where
      go : (n : Option ℕ) → None ≡ pair_of None n
      go (Some b) = refl
      go None = refl

pub ruleset number-rules = (pair_right, other_wrong, number-wrong)

-- ---- its `)`

module _ (s : List ℕ) (i : ℕ) (e : i ≡ index_of 0x29 s) where
  pub end_within : i ≤ length s
  end_within = omega (arith, index_within 0x29 s)

  pub end_length : i ≡ length (take i s)
  end_length = simp length-take (omega (arith, end_within))

  pub closed : (u : List ℕ) (r : Option Group) → length s - i ≡ 1 → r ≡ pair_of (read_number 3 u) (read_number 3 (take i s)) → r ≡ closed_pair u s
  unfolding closed_pair
  closed u r h g = g ∙ rw (before-found 0x29 s i e, eq-eqb (index_of 0x29 s + 1) (length s) (omega arith))

  pub unclosed : (u : List ℕ) → (length s - i ≡ 1 → ⊥) → None ≡ closed_pair u s
  unfolding closed_pair
  unclosed u h = rw (ne_eqb (index_of 0x29 s + 1) (length s) (λ f. h (omega arith)))

pub ruleset closing-rules = (end_within, end_length, closed, unclosed)

-- ---- its comma

pub cut_length : (s : List ℕ) (i : ℕ) → i < length s → i ≡ length (take i s)
cut_length s i l = simp length-take (omega arith)

pub comma : (s : List ℕ) (i : ℕ) (r : Option Group) → i ≡ index_of 0x2C s → i < length s
    → r ≡ closed_pair (take i s) (take (length s - (i + 1)) (drop (i + 1) s)) → r ≡ inside_pair s
unfolding inside_pair
comma s i r e l h = h ∙ rw (has-found 0x2C s i e l, before-found 0x2C s i e, after-found 0x2C s i e)

pub no_comma : (s : List ℕ) (i : ℕ) → i ≡ index_of 0x2C s → length s ≤ i → None ≡ inside_pair s
unfolding inside_pair
no_comma s i e l = rw (has-none 0x2C s i e l)

pub ruleset comma_rules = (cut_length, comma, no_comma)

-- ---- its `(`

pub no_pair : (s : List ℕ) → length s ≡ 0 → None ≡ read_pair s
unfolding read_pair
no_pair [] h = refl
no_pair (b ∷ s) h = absurd (omega arith)

pub unopened : (s : List ℕ) → (length s ≡ 0 → ⊥) → (get_or s 0 0 ≡ 0x28 → ⊥) → None ≡ read_pair s
unfolding read_pair
unopened [] h e = refl
unopened (b ∷ s) h e = rw (ne_eqb b 0x28 e)

pub opened : (s : List ℕ) (r : Option Group) → (length s ≡ 0 → ⊥) → get_or s 0 0 ≡ 0x28 → r ≡ inside_pair (take (length s - 1) (drop 1 s)) → r ≡ read_pair s
unfolding read_pair
opened [] r h e q = absurd (h refl)
opened (b ∷ s) r h e q = q ∙ rw (take_all (suc (length s) - 1) s (omega arith), eq-eqb b 0x28 e)

pub ruleset pair_rules = (no_pair, unopened, opened)

-- ---- a number, or else a pair

module _ (s : List ℕ) (m : Option ℕ) (e : m ≡ read_number 3 s) where
  pub a-number : (a : ℕ) → m ≡ Some a → Some (Single a) ≡ read_group s
  unfolding read_group or_pair
  a-number a h = rw (sym e ∙ h)

  pub a_pair : (r : Option Group) → m ≡ None → r ≡ read_pair s → r ≡ read_group s
  unfolding read_group or_pair
  a_pair r h g = g ∙ rw (sym e ∙ h)

pub ruleset group_rules = (a-number, a_pair)
