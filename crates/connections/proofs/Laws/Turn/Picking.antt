-- The connection that is taken out of the row stands in a row of 32.
use Rattle.std.specs.Prelude.{◌≡◌, Bool, true, false, cond, ◌&&◌, List, ℕ, ◌≤◌, ◌<◌, eqb, leb, length, None, Option, Some}
use Rattle.std.proofs.Math.Path.{refl}
use native.Mathlib.Omega.{arith}
use borrow.Author.Tests.{leb-true}
use Rattle.connections.specs.Round.{waits_by, next}
use Rattle.connections.proofs.Laws.Round.Laws.{Chosen, nobody, one, next-chosen}
use Rattle.connections.specs.Turn.Picking.{number_of, picked}

module _ (flags : List Bool) (counts : List ℕ) (last : ℕ) where
  -- it stands in a row of 32
  pub picked-below : picked flags counts last < 32
  unfolding picked number_of
  picked-below = go (eqb (length counts) 32) (leb last 31) refl
    where
      below : (s : Option ℕ) → Chosen last (waits_by flags counts) s → number_of s < 32
      below None (nobody h) = omega arith
      below (Some i) (one j l w h) = l

      go : (b c : Bool) → leb last 31 ≡ c → cond (b && c) (number_of (next last (waits_by flags counts))) 0 < 32
      go true true e = let k : last ≤ 31 = leb-true last 31 e in below (next last (waits_by flags counts)) (next-chosen last (waits_by flags counts) (omega arith))
      go true false e = omega arith
      go false c e = omega arith
