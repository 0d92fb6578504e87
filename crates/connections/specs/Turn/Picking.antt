-- Which connection is taken out of the row.
use Rattle.std.specs.Prelude.{◌≡◌, Bool, cond, ◌&&◌, List, ℕ, ◌≤◌, ◌<◌, eqb, leb, length, None, Option, Some}
use Rattle.std.proofs.Math.Path.{refl, sym, ap}
use Rattle.std.proofs.Common.{◌∙◌}
use Rattle.std.proofs.Math.Bool.{and-false}
use borrow.Author.Tests.{eq-eqb, ne_eqb, le-leb, lt-leb}
use Rattle.connections.specs.Round.{waits_by, next}

-- the number to take out: that of the one that is next, and 0 where nobody is or a count or the last served is wrong
unfoldable pub number_of : Option ℕ → ℕ
number_of None = 0
number_of (Some i) = i

unfoldable pub picked : (flags : List Bool) → (counts : List ℕ) → (last : ℕ) → ℕ
picked flags counts last = cond (eqb (length counts) 32 && leb last 31) (number_of (next last (waits_by flags counts))) 0

module _ (flags : List Bool) (counts : List ℕ) (last : ℕ) where
  pub pick_counts : (length counts ≡ 32 → ⊥) → 0 ≡ picked flags counts last
  unfolding picked
  pick_counts h = rw (ne_eqb (length counts) 32 h) refl

  pub pick_last : 31 < last → 0 ≡ picked flags counts last
  unfolding picked
  pick_last h = rw (lt-leb last 31 h, and-false (eqb (length counts) 32)) refl

  pub picked_next : length counts ≡ 32 → last ≤ 31 → picked flags counts last ≡ number_of (next last (waits_by flags counts))
  unfolding picked
  picked_next n l = rw (eq-eqb (length counts) 32 n, le-leb last 31 l) refl

  pub pick_nobody : (t : Option ℕ) → length counts ≡ 32 → last ≤ 31 → t ≡ next last (waits_by flags counts) → t ≡ None → 0 ≡ picked flags counts last
  unfolding number_of
  pick_nobody t n l q h = sym (picked_next n l ∙ ap number_of (sym q ∙ h))

  pub pick_one : (t : Option ℕ) (i : ℕ) → length counts ≡ 32 → last ≤ 31 → t ≡ next last (waits_by flags counts) → t ≡ Some i → i ≡ picked flags counts last
  unfolding number_of
  pick_one t i n l q h = sym (picked_next n l ∙ ap number_of (sym q ∙ h))

pub ruleset picking = (pick_counts, pick_last, pick_nobody, pick_one)
