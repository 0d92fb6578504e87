-- Laws of the parameter lists: the parameters of a module by their numbers, and lists one after the other.
use Rattle.std.specs.Prelude.{◌≡◌, refl, List, [], ◌∷◌, ◌++◌, ℕ, zero, suc, ◌+◌, ◌<◌, length, get_or, drop, Some}
use Rattle.std.proofs.Common.{ap, sym, ◌∙◌, add-zero, zero-add, le_of_suc-le-suc, not-suc-le-zero, add-one, arith, drop-cons}
use Rattle.catalogue.specs.Catalogue.{row_of, rows_of}
use Rattle.catalogue.specs.Catalogue.Laws.{rows_at}
use Rattle.values.specs.Parameters.{numbered, parameter_at, parameters_of}
use Rattle.catalogue.specs.declared.row.Row.{Row}
use Rattle.room.specs.declared.table.Module.{Module}
use Rattle.values.specs.declared.parameter.Parameter.{Parameter}

-- parameter j of a module
abbrev pub parameter_of : Module → ℕ → Parameter
parameter_of m j = record { owner = m; number = j; row = row_of m.layout j }

length-numbered : (m : Module) (n : ℕ) (rs : List Row) → length (numbered m n rs) ≡ length rs
unfolding numbered
length-numbered m n [] = refl
length-numbered m n (r ∷ rs) = ap suc (length-numbered m (n + 1) rs)

pub length-parameters_of : (m : Module) → length (parameters_of m) ≡ length (rows_of m.layout)
unfolding parameters_of
length-parameters_of m = length-numbered m 0 (rows_of m.layout)

numbered-at : (m : Module) (n : ℕ) (rs : List Row) (d : Parameter) (j : ℕ) → j < length rs → get_or (numbered m n rs) j d ≡ record { owner = m; number = n + j; row = get_or rs j d.row }
unfolding numbered
numbered-at m n [] d j h = absurd (not-suc-le-zero h)
numbered-at m n (r ∷ rs) d zero h = rw add-zero
numbered-at m n (r ∷ rs) d (suc j) h =
    let e : n + 1 + j ≡ n + suc j = omega arith in
    numbered-at m (n + 1) rs d j (le_of_suc-le-suc h) ∙ rw e

pub parameters_of-at : (m : Module) (d : Parameter) (j : ℕ) → j < length (rows_of m.layout) → get_or (parameters_of m) j d ≡ parameter_of m j
unfolding parameters_of
parameters_of-at m d j h = numbered-at m 0 (rows_of m.layout) d j h ∙ rw (zero-add, rows_at m.layout j d.row h)

pub parameters_of-cons : (m : Module) (j : ℕ) → j < length (rows_of m.layout) → drop j (parameters_of m) ≡ parameter_of m j ∷ drop (j + 1) (parameters_of m)
parameters_of-cons m j h =
    let l : j < length (parameters_of m) = omega (arith, length-parameters_of m) in
    drop-cons (parameters_of m) j (parameter_of m j) l ∙ rw (add-one, parameters_of-at m (parameter_of m j) j h)

-- the row of parameter j of a module is the module's row j
pub record OwnRow (m : Module) (j : ℕ) (p : Parameter) : Type 0 where
  pub inside : j < length (rows_of m.layout)
  pub row : p.row ≡ row_of m.layout j

pub own-inside : (ps : List Parameter) (j : ℕ) (p : Parameter) → parameter_at ps j ≡ Some p → j < length ps
unfolding parameter_at
own-inside [] j p e = absurd (let z : ◌≡◌ {A = ℕ} 0 1 = cc in omega arith)
own-inside (q ∷ ps) zero p e = omega arith
own-inside (q ∷ ps) (suc j) p e = let h = own-inside ps j p e in omega arith

own_at : (ps : List Parameter) (j : ℕ) (p : Parameter) → parameter_at ps j ≡ Some p → get_or ps j p ≡ p
unfolding parameter_at
own_at [] j p e = refl
own_at (q ∷ ps) zero p e = cc
own_at (q ∷ ps) (suc j) p e = own_at ps j p e

pub own_row : (m : Module) (j : ℕ) (p : Parameter) → parameter_at (parameters_of m) j ≡ Some p → OwnRow m j p
own_row m j p e =
    let i : j < length (rows_of m.layout) = omega (arith, own-inside (parameters_of m) j p e, length-parameters_of m) in
    record { inside = i; row = ap (λ q. q.row) (sym (own_at (parameters_of m) j p e) ∙ parameters_of-at m p j i) }

-- ---- a parameter by its place in two lists, one after the other

pub parameter_early : (ps qs : List Parameter) (d : Parameter) (k : ℕ) → k < length ps → parameter_at (ps ++ qs) k ≡ Some (get_or ps k d)
unfolding parameter_at
parameter_early [] qs d k h = absurd (not-suc-le-zero h)
parameter_early (p ∷ ps) qs d zero h = refl
parameter_early (p ∷ ps) qs d (suc k) h = parameter_early ps qs d k (le_of_suc-le-suc h)

pub parameter_late : (ps qs : List Parameter) (k : ℕ) → parameter_at (ps ++ qs) (length ps + k) ≡ parameter_at qs k
unfolding parameter_at
parameter_late [] qs k = rw zero-add
parameter_late (p ∷ ps) qs k =
    let e : suc (length ps) + k ≡ suc (length ps + k) = omega arith in
    rw e (parameter_late ps qs k)
