-- Rules for seeking the parameter of a module whose row has given indices, row by row.
use Rattle.std.specs.Prelude.{◌≡◌, refl, Bool, true, false, cond, List, [], ◌∷◌, ℕ, ◌+◌, ◌≤◌, ◌<◌, length, drop, Some, None}
use Rattle.std.proofs.Common.{sym, ◌∙◌, arith, drop_of_length-le}
use Rattle.catalogue.specs.Catalogue.{row_of, rows_of}
use Rattle.values.specs.Parameters.{parameters_of, with_indices}
use Rattle.values.specs.Parameters.Laws.{length-parameters_of, parameter_of, parameters_of-cons}
use Rattle.catalogue.specs.Row.{same_indices}
use Rattle.catalogue.specs.declared.row.Indices.{Indices}
use Rattle.catalogue.specs.declared.row.Row.{Row}
use Rattle.room.specs.declared.table.Module.{Module}
use Rattle.values.specs.declared.parameter.Parameter.{Parameter}

-- the rows passed have other indices
pub record Seeking (m : Module) (i : Indices) (count j : ℕ) : Type 0 where
  pub counts : count ≡ length (rows_of m.layout)
  pub within : j ≤ count
  pub rest : with_indices i (parameters_of m) ≡ with_indices i (drop j (parameters_of m))

pub seek-start : (m : Module) (i : Indices) (count : ℕ) → count ≡ length (rows_of m.layout) → Seeking m i count 0
seek-start m i count e = record { counts = e; within = omega arith; rest = refl }

head : (i : Indices) (p : Parameter) (ps : List Parameter) (t : Bool) → same_indices p.row.indices i ≡ t → with_indices i (p ∷ ps) ≡ cond t (Some p) (with_indices i ps)
unfolding with_indices
head i p ps t e = rw e

module _ (m : Module) (i : Indices) (count j : ℕ) (s : Seeking m i count j) (l : j < count) (r : Row) (e : r ≡ row_of m.layout j) (t : Bool) (f : t ≡ same_indices r.indices i) where
  at_row : with_indices i (parameters_of m) ≡ cond t (Some (parameter_of m j)) (with_indices i (drop (j + 1) (parameters_of m)))
  at_row =
      let k : j < length (rows_of m.layout) = omega (arith, s.counts) in
      s.rest ∙ rw (parameters_of-cons m j k) (head i (parameter_of m j) (drop (j + 1) (parameters_of m)) t (rw e at (sym f)))

  pub seek-next : t ≡ false → Seeking m i count (j + 1)
  seek-next h = record { counts = s.counts; within = omega arith; rest = rw h at at_row }

  pub seek_found : t ≡ true → Some (record { owner = m; number = j; row = r }) ≡ with_indices i (parameters_of m)
  seek_found h = rw e (sym (rw h at at_row))

nothing_left : (i : Indices) → with_indices i [] ≡ None
unfolding with_indices
nothing_left i = refl

pub seek-none : (m : Module) (i : Indices) (count j : ℕ) → Seeking m i count j → count ≤ j → None ≡ with_indices i (parameters_of m)
seek-none m i count j s l =
    let past : length (parameters_of m) ≤ j = omega (arith, s.counts, length-parameters_of m) in
    sym (s.rest ∙ rw (drop_of_length-le (parameters_of m) past) (nothing_left i))

pub row_inside : (m : Module) (i : Indices) (count j : ℕ) → Seeking m i count j → j < count → j < length (rows_of m.layout)
row_inside m i count j s l = omega (arith, s.counts)

pub ruleset seeking = (seek-start, seek-next, seek_found, seek-none, row_inside)
