-- How many rows each module type has, and how many there are in all.
use Rattle.std.specs.Prelude.{◌≡◌, refl, [], ◌∷◌, map, ℕ, length}
use Rattle.catalogue.specs.Catalogue.{catalogue, level, minus, number, rows_in, switch}

pub rows_by_type : map (λ (kind : ℕ). length (rows_in kind catalogue)) (1 ∷ 2 ∷ 3 ∷ 4 ∷ 5 ∷ 6 ∷ []) ≡ 6 ∷ 1 ∷ 1 ∷ 7 ∷ 33 ∷ 2 ∷ []
unfolding rows_in catalogue level switch number minus
rows_by_type = refl

pub fifty_rows : length catalogue ≡ 50
unfolding catalogue
fifty_rows = refl
