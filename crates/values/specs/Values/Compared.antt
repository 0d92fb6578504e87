-- Rules for code that compares two values: it compares their bits.
use Rattle.std.specs.Prelude.{◌≡◌, refl, Bool, true, false, ℤ}
use Rattle.std.proofs.Common.{ap, sym, ◌∙◌, to_z-of_z, SFits, of_z, to_z}
use Rattle.std.specs.Int.{w64}
use Rattle.values.specs.Values.{equal}
use Rattle.values.specs.Values.Laws.{equal-refl, equal-true}

pub bits-equal : (v x : ℤ) → SFits w64 v → SFits w64 x → of_z w64 v ≡ of_z w64 x → equal v x ≡ true
bits-equal v x f g e =
    let s : v ≡ x = sym (to_z-of_z f) ∙ ap (to_z w64) e ∙ to_z-of_z g in
    rw s (equal-refl x)

pub bits-differ : (v x : ℤ) → (of_z w64 v ≡ of_z w64 x → ⊥) → equal v x ≡ false
bits-differ v x h = go (equal v x) refl
  where
    go : (b : Bool) → equal v x ≡ b → b ≡ false
    go true e = absurd (h (ap (of_z w64) (equal-true v x e)))
    go false e = refl
