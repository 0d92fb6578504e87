-- A parameter by the numbers of its module and of its row: it is the table's parameter at its place, and the other way round.
use Rattle.std.specs.Prelude.{◌≡◌, refl, true, List, [], ◌∷◌, ℕ, zero, suc, ◌+◌, ◌≤◌, ◌<◌, length, get_or, Option, Some, None}
use Rattle.std.proofs.Common.{ap, sym, ◌∙◌, le_of_suc-le-suc, not-suc-le-zero, arith}
use Rattle.catalogue.specs.Catalogue.{known_layout, row_of, rows_of}
use Rattle.room.specs.Table.{module_at, modules, sound}
use Rattle.room.specs.Table.Modules.{module_at-known}
use Rattle.values.specs.Parameters.{by_row, parameter_at, parameters, parameters_of, place, row_at}
use Rattle.values.specs.Parameters.Laws.{length-parameters_of, parameters_of-at}
use Rattle.values.specs.Parameters.Places.{at-module, at_own, never_found}
use Rattle.catalogue.specs.declared.row.Row.{Row}
use Rattle.room.specs.declared.table.Module.{Module}
use Rattle.values.specs.declared.parameter.Parameter.{Parameter}

-- ---- a place in a list of parameters

at-past : (ps : List Parameter) (j : ℕ) → length ps ≤ j → None ≡ parameter_at ps j
unfolding parameter_at
at-past [] j h = refl
at-past (p ∷ ps) zero h = absurd (omega arith)
at-past (p ∷ ps) (suc j) h = at-past ps j (omega arith)

at-inside : (ps : List Parameter) (j : ℕ) (d : Parameter) → j < length ps → parameter_at ps j ≡ Some (get_or ps j d)
unfolding parameter_at
at-inside [] j d h = absurd (not-suc-le-zero h)
at-inside (p ∷ ps) zero d h = refl
at-inside (p ∷ ps) (suc j) d h = at-inside ps j d (le_of_suc-le-suc h)

-- ---- what the functions need

pub own-none : (m : Module) (count j : ℕ) → count ≡ length (rows_of m.layout) → count ≤ j → None ≡ parameter_at (parameters_of m) j
own-none m count j e h = at-past (parameters_of m) j (omega (arith, length-parameters_of m))

pub own-one : (m : Module) (count j : ℕ) (row : Row) → count ≡ length (rows_of m.layout) → j < count → row ≡ row_of m.layout j
    → Some (record { owner = m; number = j; row = row }) ≡ parameter_at (parameters_of m) j
own-one m count j row e h q =
    let i : j < length (rows_of m.layout) = omega arith in
    let l : j < length (parameters_of m) = omega (arith, length-parameters_of m) in
    let p : Parameter = record { owner = m; number = j; row = row } in
    rw q (sym (at-inside (parameters_of m) j p l ∙ ap Some (parameters_of-at m p j i)))

pub own-inside : (m : Module) (count j : ℕ) → count ≡ length (rows_of m.layout) → j < count → j < length (rows_of m.layout)
own-inside m count j e h = omega arith

pub row_none : (t : List ℕ) (n j : ℕ) (f : Option Module) → f ≡ module_at (modules t) n → f ≡ None → None ≡ by_row t n j
unfolding by_row row_at
row_none t n j f e q = rw (sym e ∙ q)

pub row_one : (t : List ℕ) (n j : ℕ) (m : Module) (f : Option Module) (r : Option Parameter) → f ≡ module_at (modules t) n → f ≡ Some m
    → r ≡ parameter_at (parameters_of m) j → r ≡ by_row t n j
unfolding by_row row_at
row_one t n j m f r e q h = rw (sym e ∙ q) h

pub row_known : (t : List ℕ) (n : ℕ) (m : Module) (f : Option Module) → sound t ≡ true → f ≡ module_at (modules t) n → f ≡ Some m → known_layout m.layout ≡ true
row_known t n m f s e q = module_at-known t s n m (sym e ∙ q)

pub ruleset by_row_lem = (own-none, own-one, own-inside, row_none, row_one, row_known)

-- ---- the laws

-- the parameter p is the row j of the table's module n
pub record RowOf (t : List ℕ) (n j : ℕ) (p : Parameter) : Type 0 where
  pub among : module_at (modules t) n ≡ Some p.owner
  pub own : parameter_at (parameters_of p.owner) j ≡ Some p
  pub number : p.number ≡ j
  pub listed : parameter_at (parameters t) (place p) ≡ Some p

pub by_row-told : (t : List ℕ) (n j : ℕ) (p : Parameter) → by_row t n j ≡ Some p → RowOf t n j p
unfolding by_row row_at place
by_row-told t n j p e = go (module_at (modules t) n) refl e
  where
    go : (f : Option Module) → module_at (modules t) n ≡ f → row_at f j ≡ Some p → RowOf t n j p
    go (Some m) q h =
        let o = at_own m j p h in
        let l = at-module t n m j p q h in
        let k : place p ≡ m.first + j = rw (o.owner, o.number) refl in
        record {
          among = q ∙ ap Some (sym o.owner);
          own = ap (λ (n : Module). parameter_at (parameters_of n) j) o.owner ∙ h;
          number = o.number;
          listed = ap (parameter_at (parameters t)) k ∙ l;
        }
    go None q h = never_found p h
