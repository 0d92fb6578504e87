-- The walk over a table's records in the wanted changes: those of the records passed, and those from here on.
use Rattle.std.specs.Prelude.{◌≡◌, refl, ℕ, ◌+◌, ◌≤◌, ◌<◌, ℤ, get_or, drop}
use Rattle.std.proofs.Math.Path.{ap, sym}
use Rattle.std.proofs.Common.{◌∙◌, arith}
use mathlib.Core.List.{List, [], ◌++◌, append_assoc, append-nil}
use Rattle.std.proofs.Math.ListN.{length, take, length-drop}
use Rattle.std.proofs.Math.Seq.{drop-drop}
use Rattle.catalogue.specs.Catalogue.{rows_of}
use Rattle.record.specs.Body.{body_length}
use Rattle.record.specs.Layout.{layout_at}
use Rattle.room.specs.Table.Modules.{record_room}
use Rattle.room.specs.Table.Walk.{walk_known, walk_numbered}
use Rattle.values.specs.Parameters.{parameters_of}
use Rattle.values.specs.Parameters.Laws.{length-parameters_of}
use Rattle.values.specs.Parameters.Walk.{Counted, counted_next, counted_start, module_count, module_here, parameters_at, parameters-end, parameters-next, parameters-start}
use Rattle.room.specs.declared.table.Module.{Module}
use Rattle.wish.specs.Target.{Wish}
use Rattle.wish.specs.Target.Wanting.{selection_long, wanted_long}
use Rattle.wish.specs.Listing.{Admitted, Change, changes}
use Rattle.wish.specs.Listing.Wanted.{wanted_changes}
use Rattle.wish.proofs.Laws.Listing.Wanted.{wanted_all, wanted_append, wanted_module, wanted_none}
use Rattle.restore_list.specs.Measuring.{Matching, Standing, all_changes, module_changes, row_changes, values_of}
use Rattle.values.specs.Values.Laws.{values_many}

module_wanted : (selection : List ℕ) (m : Module) (vs ws : List ℤ)
    → wanted_changes selection (parameters_of m) (values_of m vs) (values_of m ws) ≡ module_changes selection m vs ws
unfolding module_changes row_changes
module_wanted selection m vs ws = wanted_module selection m (values_of m vs) (values_of m ws)

-- ---- a wish that is admitted: its lists match the table, and its changes are those of all modules

pub admitted_lists : (w : Wish) → Admitted w → Matching w.room.table w.present w.selection w.wanted
admitted_lists w a =
    record {
      sounds = a.table;
      present-long = values_many w.room w.present a.present;
      selection_long = selection_long w.room.table w.selection a.selection;
      wanted_long = wanted_long w.room w.selection w.wanted a.wanted;
    }

pub wish_changes : (w : Wish) → changes w ≡ all_changes w.room.table w.present w.selection w.wanted
unfolding all_changes
wish_changes w = wanted_all w

-- ---- the walk

-- the changes of the records passed are `done`
pub record ChangeWalk (t : List ℕ) (vs : List ℤ) (selection : List ℕ) (ws : List ℤ) (number place first : ℕ) (done : List Change) : Type 0 where
  pub counted : Counted t number place first
  pub lists : Matching t vs selection ws
  pub split : all_changes t vs selection ws ≡ done ++ wanted_changes selection (parameters_at t number place first) (drop first vs) (drop first ws)

pub walk_none : (t : List ℕ) (vs : List ℤ) (selection : List ℕ) (ws : List ℤ) → Matching t vs selection ws → ChangeWalk t vs selection ws 0 0 0 []
unfolding all_changes
walk_none t vs selection ws a =
    record { counted = counted_start t a.sounds; lists = a; split = ap (λ ps. wanted_changes selection ps vs ws) (parameters-start t) }

module _ (t : List ℕ) (vs : List ℤ) (selection : List ℕ) (ws : List ℤ) (number place first : ℕ) (done : List Change)
    (s : ChangeWalk t vs selection ws number place first done) (l : place < length t) (rows : ℕ) (n : rows ≡ length (rows_of (layout_at t place))) where
  here : Module
  here = module_here t number place first

  count : length (parameters_of here) ≡ rows
  unfolding here
  count = module_count t number place first rows n

  next-counted : (size : ℕ) → size ≡ body_length (get_or t place 0) → Counted t (number + 1) (place + 1 + size) (first + rows)
  next-counted size e = counted_next t number place first s.counted l size rows e n

  walk_selected : number < length selection
  walk_selected = omega (arith, s.lists.selection_long, walk_numbered t number place first s.counted.walk l)

  walk_present : first + rows ≤ length vs
  walk_present = omega (arith, s.lists.present-long, (next-counted (body_length (get_or t place 0)) refl).total)

  walk_wanted : first + rows ≤ length ws
  walk_wanted = omega (arith, s.lists.wanted_long, (next-counted (body_length (get_or t place 0)) refl).total)

  pub walk_changes : (size : ℕ) → size ≡ body_length (get_or t place 0)
      → ChangeWalk t vs selection ws (number + 1) (place + 1 + size) (first + rows) (done ++ module_changes selection (module_here t number place first) vs ws)
  unfolding here
  walk_changes size e =
      let long = length (parameters_of here) in
      let a : long ≤ length (drop first vs) = omega (arith, count, walk_present, length-drop first vs) in
      let b : long ≤ length (drop first ws) = omega (arith, count, walk_wanted, length-drop first ws) in
      let later = parameters_at t (number + 1) (place + 1 + size) (first + rows) in
      record {
        counted = next-counted size e;
        lists = s.lists;
        split =
            s.split
            ∙ ap (λ cs. done ++ cs)
            (ap (λ ps. wanted_changes selection ps (drop first vs) (drop first ws))
            (parameters-next t number place first s.counted.walk l size rows e n)
            ∙ wanted_append selection (parameters_of here) later (drop first vs) (drop first ws) a b
            ∙ rw (
              own vs,
              own ws,
              module_wanted selection here vs ws,
              count,
              drop-drop rows first vs,
              drop-drop rows first ws,
            ))
            ∙ sym (append_assoc done (module_changes selection here vs ws)
            (wanted_changes selection later (drop (first + rows) vs) (drop (first + rows) ws)));
      }
    where
      own : (xs : List ℤ) → take (length (parameters_of here)) (drop first xs) ≡ values_of here xs
      own xs = unfold values_of here in rw (length-parameters_of (module_here t number place first))

pub walk_all : (t : List ℕ) (vs : List ℤ) (selection : List ℕ) (ws : List ℤ) (number place first : ℕ) (done : List Change)
    → ChangeWalk t vs selection ws number place first done → length t ≤ place → all_changes t vs selection ws ≡ done
walk_all t vs selection ws number place first done s l =
    s.split
    ∙ rw (parameters-end t number place first l, wanted_none selection (drop first vs) (drop first ws)) (append-nil done)

-- the module at the place stands in the table, and its values in the lists
pub standing : (t : List ℕ) (vs : List ℤ) (selection : List ℕ) (ws : List ℤ) (number place first : ℕ) (done : List Change)
    → ChangeWalk t vs selection ws number place first done → place < length t → Standing t vs selection ws (module_here t number place first)
standing t vs selection ws number place first done s l =
    let rows = length (rows_of (layout_at t place)) in
    let walk = s.counted.walk in
    record {
      sounds = s.lists.sounds;
      known = walk_known t number place first walk l;
      room = omega (arith, record_room t number place first walk l);
      byte = walk_selected t vs selection ws number place first done s l rows refl;
      values = walk_present t vs selection ws number place first done s l rows refl;
      wishes = walk_wanted t vs selection ws number place first done s l rows refl;
    }
