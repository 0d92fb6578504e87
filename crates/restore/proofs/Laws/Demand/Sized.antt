-- What the size call's answer says of the wish.
use Rattle.std.specs.Prelude.{◌≡◌, refl, ℕ, zero, suc, ◌<◌, length}
use Rattle.std.proofs.Common.{sym, ◌∙◌, ap, arith}
use Rattle.wish.specs.Target.{Wish}
use Rattle.wish.specs.Listing.{changes, listing, size, size_number}
use Rattle.wish.specs.Listing.Sizing.{size_number_lem, size-refused, size_told_lem}
use Rattle.restore.specs.Demand.{Sizes, size_told}
use Rattle.restore.proofs.Laws.Demand.Laws.{size-by}
use Rattle.restore.specs.Restored.{Restored}

module _ {w : Wish} {s : Restored} (h : Sizes w s) where
  -- its parts, written out
  pub size-parts : record { number = s.number; bytes = s.bytes; lines = s.lines } ≡ size w
  unfolding size_told
  size-parts = size-by h

  pub size-numbered : size_number w ≡ s.number
  size-numbered = sym (ap (λ z. z.number) size-parts ∙ size_number_lem w)

  pub size-listed : size_number w ≡ 0 → (s.bytes ≡ length (listing w.room.table (changes w))) × (s.lines ≡ length (changes w))
  size-listed e = (ap (λ z. z.bytes) (size-parts ∙ size_told_lem w e), ap (λ z. z.lines) (size-parts ∙ size_told_lem w e))

  pub size_none : (size_number w ≡ 0 → ⊥) → (s.bytes ≡ 0) × (s.lines ≡ 0)
  size_none n =
      let q = size-refused w (size_number w) refl n in
      (ap (λ z. z.bytes) (size-parts ∙ q), ap (λ z. z.lines) (size-parts ∙ q))

  -- bytes or lines are told of an accepted wish alone
  pub bytes-accepted : 0 < s.bytes → size_number w ≡ 0
  bytes-accepted b = go (size_number w) refl
    where
      go : (n : ℕ) → size_number w ≡ n → size_number w ≡ 0
      go zero e = e
      go (suc n) e = absurd (omega (arith, (size_none (λ z. omega arith)).0))

  pub lines_accepted : (s.lines ≡ 0 → ⊥) → size_number w ≡ 0
  lines_accepted l = go (size_number w) refl
    where
      go : (n : ℕ) → size_number w ≡ n → size_number w ≡ 0
      go zero e = e
      go (suc n) e = absurd (l (size_none (λ z. omega arith)).1)
