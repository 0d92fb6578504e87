-- A module and indices name a parameter: which one, and each by its own row's indices.
use Rattle.std.specs.Prelude.{◌≡◌, refl, Bool, true, false, cond, List, [], ◌∷◌, ℕ, zero, suc, ◌+◌, Some}
use Rattle.std.proofs.Common.{ap, sym, ◌∙◌, zero-add}
use Rattle.catalogue.specs.Catalogue.{known_layout, rows_of}
use Rattle.text.specs.Every.Laws.{every-both, pairs-both}
use Rattle.text.specs.Every.{every, pairs}
use Rattle.catalogue.specs.Catalogue.Distinct.{differ-indices, rows_differ}
use Rattle.catalogue.specs.Catalogue.Modules.{type_distinct, type_sized}
use Rattle.catalogue.specs.Catalogue.Routed.{Routed, row_routed}
use Rattle.catalogue.specs.Catalogue.Sized.{sized_row}
use Rattle.catalogue.specs.Row.{same_indices}
use Rattle.catalogue.specs.Row.Comparing.{same_indices_lem, same_indices-refl}
use Rattle.values.specs.Parameters.{numbered, parameters_of, parameter_at, with_indices}
use Rattle.values.specs.Parameters.Laws.{own_row}
use Rattle.values.specs.Parameters.Places.{found-same, never_found, at-numbered}
use Rattle.catalogue.specs.declared.row.Indices.{Indices}
use Rattle.catalogue.specs.declared.row.Kind.TheVariants.{Word}
use Rattle.catalogue.specs.declared.row.Row.{Row}
use Rattle.room.specs.declared.table.Module.{Module}
use Rattle.values.specs.declared.parameter.Parameter.{Parameter}

-- ---- what a name tells

-- p has the indices i and stands in the list of rows
record Found (m : Module) (n : ℕ) (rs : List Row) (i : Indices) (p : Parameter) : Type 0 where
  at : ℕ
  found : parameter_at (numbered m n rs) at ≡ Some p
  indices : p.row.indices ≡ i

with_indices-told : (m : Module) (n : ℕ) (rs : List Row) (i : Indices) (p : Parameter) → with_indices i (numbered m n rs) ≡ Some p → Found m n rs i p
unfolding numbered with_indices parameter_at
with_indices-told m n [] i p e = never_found p e
with_indices-told m n (r ∷ rs) i p e = go (same_indices r.indices i) refl e (with_indices-told m (n + 1) rs i p)
  where
    one : Parameter
    one = record { owner = m; number = n; row = r }

    go : (b : Bool) → same_indices r.indices i ≡ b → cond b (Some one) (with_indices i (numbered m (n + 1) rs)) ≡ Some p
        → (with_indices i (numbered m (n + 1) rs) ≡ Some p → Found m (n + 1) rs i p) → Found m n (r ∷ rs) i p
    go true s h below =
        record { at = 0; found = h; indices = ap (λ q. q.row.indices) (sym (found-same one p h)) ∙ same_indices_lem r.indices i s }
    go false s h below = let f = below h in record { at = suc f.at; found = f.found; indices = f.indices }

-- the parameter p is the module m's, stands there by its number, and its row has the indices i
pub record IndexedBy (m : Module) (i : Indices) (p : Parameter) : Type 0 where
  pub owner : p.owner ≡ m
  pub own : parameter_at (parameters_of m) p.number ≡ Some p
  pub indices : p.row.indices ≡ i

pub indexed-told : (m : Module) (i : Indices) (p : Parameter) → with_indices i (parameters_of m) ≡ Some p → IndexedBy m i p
unfolding parameters_of
indexed-told m i p e =
    let f = with_indices-told m 0 (rows_of m.layout) i p e in
    let h = at-numbered m 0 (rows_of m.layout) f.at p f.found in
    let n : p.number ≡ f.at = h.number ∙ zero-add f.at in
    record { owner = h.owner; own = ap (parameter_at (parameters_of m)) n ∙ f.found; indices = f.indices }

-- ---- each parameter by its own name

pub row_at : (test : Row → Bool) (m : Module) (n : ℕ) (rs : List Row) (j : ℕ) (p : Parameter) → every test rs ≡ true
    → parameter_at (numbered m n rs) j ≡ Some p → test p.row ≡ true
unfolding numbered parameter_at
row_at test m n [] j p h e = never_found p e
row_at test m n (r ∷ rs) zero p h e =
    ap (λ q. test q.row) (sym (found-same (record { owner = m; number = n; row = r }) p e)) ∙ (every-both test r rs h).0
row_at test m n (r ∷ rs) (suc j) p h e = row_at test m (n + 1) rs j p (every-both test r rs h).1 e

with_indices-back : (m : Module) (n : ℕ) (rs : List Row) (j : ℕ) (p : Parameter) → pairs rows_differ rs ≡ true
    → parameter_at (numbered m n rs) j ≡ Some p → with_indices p.row.indices (numbered m n rs) ≡ Some p
unfolding numbered with_indices parameter_at
with_indices-back m n [] j p h e = never_found p e
with_indices-back m n (r ∷ rs) zero p h e =
    let s : r.indices ≡ p.row.indices = ap (λ q. q.row.indices) (found-same (record { owner = m; number = n; row = r }) p e) in
    let t : same_indices r.indices p.row.indices ≡ true = ap (λ i. same_indices i p.row.indices) s ∙ same_indices-refl p.row.indices in
    rw t e
with_indices-back m n (r ∷ rs) (suc j) p h e =
    let k = pairs-both rows_differ r rs h in
    let d = row_at (rows_differ r) m (n + 1) rs j p k.0 e in
    rw (differ-indices r p.row d) (with_indices-back m (n + 1) rs j p k.1 e)

pub indexed-back : (m : Module) (j : ℕ) (p : Parameter) → parameter_at (parameters_of m) j ≡ Some p → with_indices p.row.indices (parameters_of m) ≡ Some p
unfolding parameters_of
indexed-back m j p e = with_indices-back m 0 (rows_of m.layout) j p (type_distinct m.layout) e

pub row_sized : (m : Module) (j : ℕ) (p : Parameter) → known_layout m.layout ≡ true → parameter_at (parameters_of m) j ≡ Some p → sized_row p.row ≡ true
unfolding parameters_of
row_sized m j p k e = row_at sized_row m 0 (rows_of m.layout) j p (type_sized m.layout k) e

-- a parameter that is a word is the routing word of an input of a mixer
pub word-routed : (m : Module) (j : ℕ) (p : Parameter) → known_layout m.layout ≡ true → parameter_at (parameters_of m) j ≡ Some p → p.row.kind ≡ Word → Routed m.layout p.row
word-routed m j p k e w =
    let h = own_row m j p e in
    rw h.row (row_routed m.layout j k h.inside (ap (λ r. r.kind) (sym h.row) ∙ w))
