-- The walk over a module's rows: the changes of the rows passed, and those from here on.
use Rattle.std.specs.Prelude.{◌≡◌, refl, Bool, cond, List, [], ◌∷◌, ◌++◌, ℕ, ◌+◌, ◌≤◌, ◌<◌, ℤ, pos, get_or, drop}
use Rattle.std.proofs.Math.Path.{ap, sym}
use Rattle.std.proofs.Common.{◌∙◌, append_assoc, append-nil, arith}
use Rattle.std.proofs.Math.Bool.{true, false}
use Rattle.std.proofs.Math.ListN.{length}
use Rattle.catalogue.specs.Catalogue.{rows_of}
use Rattle.values.specs.Parameters.{parameters_of}
use Rattle.values.specs.Parameters.Laws.{length-parameters_of, parameter_of, parameters_of-at}
use Rattle.room.specs.declared.table.Module.{Module}
use Rattle.wish.specs.Listing.{Change, changes_of}
use Rattle.wish.proofs.Laws.Listing.Rows.{changes-from, changes-past}
use Rattle.restore_list.specs.Measuring.{row_changes}
use Rattle.values.specs.Values.{equal}

-- the changes of the first j rows are `done`
pub record RowWalk (m : Module) (vs ws : List ℤ) (j : ℕ) (done : List Change) : Type 0 where
  pub many : length vs ≡ length (rows_of m.layout)
  pub wanted : length ws ≡ length (rows_of m.layout)
  pub within : j ≤ length vs
  pub split : row_changes m vs ws ≡ done ++ changes_of (drop j (parameters_of m)) (drop j vs) (drop j ws)

pub rows_start : (m : Module) (vs ws : List ℤ) → length vs ≡ length (rows_of m.layout) → length ws ≡ length (rows_of m.layout) → RowWalk m vs ws 0 []
unfolding row_changes
rows_start m vs ws e f = record { many = e; wanted = f; within = omega arith; split = refl }

-- parameter j of a module, taken to its wanted value
abbrev pub change_of : Module → (present wanted : List ℤ) → ℕ → Change
change_of m vs ws j = record { parameter = parameter_of m j; present = get_or vs j (pos 0); target = get_or ws j (pos 0) }

module _ (m : Module) (vs ws : List ℤ) (j : ℕ) (done : List Change) (s : RowWalk m vs ws j done) (l : j < length vs) where
  pub row_inside : j < length (rows_of m.layout)
  row_inside = omega (arith, s.many)

  rest : List Change
  rest = changes_of (drop (j + 1) (parameters_of m)) (drop (j + 1) vs) (drop (j + 1) ws)

  at_row : (b : Bool) → equal (get_or vs j (pos 0)) (get_or ws j (pos 0)) ≡ b → row_changes m vs ws ≡ done ++ cond b rest (change_of m vs ws j ∷ rest)
  unfolding rest
  at_row b e =
      let i : j < length (parameters_of m) = omega (arith, row_inside, length-parameters_of m) in
      let k : j < length ws = omega (arith, s.many, s.wanted) in
      s.split
      ∙ ap (λ cs. done ++ cs)
      (changes-from (parameters_of m) vs ws j (parameter_of m j) b i l k e ∙ rw (parameters_of-at m (parameter_of m j) j row_inside))

  pub rows_equal : equal (get_or vs j (pos 0)) (get_or ws j (pos 0)) ≡ true → RowWalk m vs ws (j + 1) done
  unfolding rest
  rows_equal e = record { many = s.many; wanted = s.wanted; within = omega arith; split = at_row true e }

  pub rows_differ_lem : equal (get_or vs j (pos 0)) (get_or ws j (pos 0)) ≡ false → RowWalk m vs ws (j + 1) (done ++ change_of m vs ws j ∷ [])
  unfolding rest
  rows_differ_lem e =
      record {
        many = s.many;
        wanted = s.wanted;
        within = omega arith;
        split = at_row false e ∙ sym (append_assoc done (change_of m vs ws j ∷ []) rest);
      }

pub rows_all : (m : Module) (vs ws : List ℤ) (j : ℕ) (done : List Change) → RowWalk m vs ws j done → length vs ≤ j → row_changes m vs ws ≡ done
rows_all m vs ws j done s l =
    s.split ∙ rw (changes-past (parameters_of m) vs ws j l) (append-nil done)
