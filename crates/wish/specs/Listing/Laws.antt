-- Laws of the restore list: of no change, of a first one, and of one list of changes after another.
use Rattle.std.specs.Prelude.{◌≡◌, Bool, true, ◌&&◌, ℕ, ◌+◌, ◌≤◌, length}
use Rattle.std.proofs.Math.Path.{refl, ap, sym}
use Rattle.std.proofs.Common.{◌∙◌, arith, length-append}
use Rattle.std.proofs.Math.Bool.{and_assoc}
use mathlib.Core.List.{List, [], ◌∷◌, ◌++◌, append_assoc}
use Rattle.text.specs.Every.Laws.{both}
use Rattle.spelling.specs.Say.{say}
use Rattle.wish.specs.Listing.{Change, all_reachable, line_of, listing, reachable}

module _ (t : List ℕ) where
  -- ---- the list

  pub listing_none : listing t [] ≡ []
  unfolding listing
  listing_none = refl

  -- a line, its 0D, and the others
  pub listing-first : (c : Change) (cs : List Change) → listing t (c ∷ cs) ≡ say t c.parameter c.present c.target ++ (0x0D ∷ listing t cs)
  unfolding listing line_of
  listing-first c cs = append_assoc (say t c.parameter c.present c.target) (0x0D ∷ []) (listing t cs)

  pub one_line : (c : Change) → listing t (c ∷ []) ≡ say t c.parameter c.present c.target ++ (0x0D ∷ [])
  one_line c = listing-first c [] ∙ rw listing_none

  pub listing-append : (cs ds : List Change) → listing t (cs ++ ds) ≡ listing t cs ++ listing t ds
  unfolding listing
  listing-append [] ds = refl
  listing-append (c ∷ cs) ds = rw (listing-append cs ds) (sym (append_assoc (line_of t c) (listing t cs) (listing t ds)))

  -- a buffer that holds the whole list holds its first part
  pub first_fits : (cs done rest : List Change) (start room : ℕ) → cs ≡ done ++ rest → start + length (listing t cs) ≤ room
      → start + length (listing t done) ≤ room
  first_fits cs done rest start room e h =
      let f : length (listing t cs) ≡ length (listing t done) + length (listing t rest) =
      rw (e, listing-append done rest) (length-append (listing t done) (listing t rest)) in
      omega arith

  -- ---- their reach

  pub reachable-none : all_reachable t [] ≡ true
  unfolding all_reachable
  reachable-none = refl

  pub no_change : (cs : List Change) → length cs ≡ 0 → all_reachable t cs ≡ true
  no_change [] e = reachable-none
  no_change (c ∷ cs) e = absurd (omega arith)

  pub reachable-both : (c : Change) (cs : List Change) → all_reachable t (c ∷ cs) ≡ true → (reachable t c.parameter ≡ true) × (all_reachable t cs ≡ true)
  unfolding all_reachable
  reachable-both c cs e = both (reachable t c.parameter) (all_reachable t cs) e

  pub reachable-append : (cs ds : List Change) → all_reachable t (cs ++ ds) ≡ (all_reachable t cs && all_reachable t ds)
  unfolding all_reachable
  reachable-append [] ds = refl
  reachable-append (c ∷ cs) ds =
      ap (λ (b : Bool). reachable t c.parameter && b) (reachable-append cs ds)
      ∙ sym (and_assoc (reachable t c.parameter) (all_reachable t cs) (all_reachable t ds))
