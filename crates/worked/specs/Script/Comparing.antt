-- Rules for the code that compares two byte sequences.
use Rattle.std.specs.Prelude.{◌≡◌, Bool, true, false, List, ℕ, eqb}
use Rattle.std.specs.Cmp.Lexicographic.{pointwise}
use Rattle.std.proofs.Common.{sym, ◌∙◌}
use Rattle.std.proofs.lemmas.Bool.{false≢true}
use lib.Pointwise.{bytes_decides}
use Rattle.room.specs.Label.{same}
use Rattle.room.specs.Label.Match.{same_refl, same_not}

-- what `==` answers at two slices
pub compared : (a b : List ℕ) (r : Bool) → r ≡ pointwise eqb a b → r ≡ same a b
compared a b r e = go r e
  where
    go : (r : Bool) → r ≡ pointwise eqb a b → r ≡ same a b
    go true e = let q : a ≡ b = (bytes_decides a b).0 (sym e) in sym (rw q (same_refl b))
    go false e = sym (same_not a b (λ q. false≢true (e ∙ (bytes_decides a b).1 q)))
