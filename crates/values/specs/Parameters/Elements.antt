-- Parameter k of a list is its element at the place k.
use Rattle.std.specs.Prelude.{◌≡◌, refl, List, [], ◌∷◌, ℕ, zero, suc, get_or, Some}
use Rattle.values.specs.Parameters.{parameter_at}
use Rattle.values.specs.Parameters.Places.{found-same, never_found}
use Rattle.values.specs.declared.parameter.Parameter.{Parameter}

pub at-element : (ps : List Parameter) (k : ℕ) (p d : Parameter) → parameter_at ps k ≡ Some p → get_or ps k d ≡ p
unfolding parameter_at
at-element [] k p d e = never_found p e
at-element (q ∷ ps) zero p d e = found-same q p e
at-element (q ∷ ps) (suc k) p d e = at-element ps k p d e

-- the first, and each later one by its place among the later ones
pub element_first : (p : Parameter) (ps : List Parameter) → parameter_at (p ∷ ps) 0 ≡ Some p
unfolding parameter_at
element_first p ps = refl

pub element_later : (p : Parameter) (ps : List Parameter) (k : ℕ) → parameter_at (p ∷ ps) (suc k) ≡ parameter_at ps k
unfolding parameter_at
element_later p ps k = refl
