-- Rules for measuring the whole list, module by module.
use Rattle.std.specs.Prelude.{◌≡◌, true, List, [], ◌++◌, ℕ, ◌+◌, ◌*◌, ◌≤◌, ◌<◌, ℤ, length, get_or}
use Rattle.std.proofs.Math.Path.{refl}
use Rattle.std.proofs.Common.{sym, ◌∙◌, arith, Fits}
use Rattle.std.proofs.Math.Bool.{false}
use Rattle.std.proofs.Math.ListN.{length-append}
use Rattle.std.specs.Int.{w64}
use Rattle.catalogue.specs.Catalogue.{row_limit, rows_of}
use Rattle.catalogue.specs.declared.layout.Layout.{Layout}
use Rattle.record.specs.Body.{body_length}
use Rattle.record.specs.Layout.{layout_at}
use Rattle.room.specs.Table.Steps.{Step, at_module, at_next}
use Rattle.room.specs.Table.Walk.{Walk, walk_few}
use Rattle.room.specs.declared.table.Module.{Module}
use Rattle.values.specs.Parameters.Walk.{module_here}
use Rattle.wish.specs.Listing.{Change, all_reachable, listing}
use Rattle.wish.specs.Listing.Laws.{listing-append, listing_none, reachable-append, reachable-none}
use Rattle.restore_list.specs.Measuring.{Matching, Measures, MeasuresModule, Standing, all_changes, measured, measured_if, module_changes}
use Rattle.restore_list.specs.Measuring.Told.{beyond_told, measures_by, within-told}
use Rattle.restore_list.specs.Measuring.Walk.{ChangeWalk, standing, walk_all, walk_changes, walk_none}
use Rattle.restore_list.specs.declared.module_measuring.Measured.{Measured}
use Rattle.restore_list.specs.declared.module_measuring.Measured.TheVariants.{Within, Beyond}

-- the changes of the records passed are within reach, and have so many bytes and lines
pub record Sums (t : List ℕ) (vs : List ℤ) (selection : List ℕ) (ws : List ℤ) (number place first bytes lines : ℕ) : Type 0 where
  pub walk : Walk t number place first
  pub done : List Change
  pub passed : ChangeWalk t vs selection ws number place first done
  pub reach : all_reachable t done ≡ true
  pub bytes-are : bytes ≡ length (listing t done)
  pub lines_are : lines ≡ length done
  pub short : bytes ≤ 128 * (row_limit * number)
  pub few : lines ≤ row_limit * number

pub sums_start : (t : List ℕ) (vs : List ℤ) (selection : List ℕ) (ws : List ℤ) → Matching t vs selection ws → Sums t vs selection ws 0 0 0 0 0
sums_start t vs selection ws a =
    let s = walk_none t vs selection ws a in
    record {
      walk = s.counted.walk;
      done = [];
      passed = s;
      reach = reachable-none t;
      bytes-are = rw (listing_none t) refl;
      lines_are = refl;
      short = omega arith;
      few = omega arith;
    }

beyond_first : (t : List ℕ) (cs done rest : List Change) → cs ≡ done ++ rest → all_reachable t done ≡ false → Beyond ≡ measured t cs
unfolding measured measured_if
beyond_first t cs done rest e h = rw (e, reachable-append t done rest, h) refl

module _ (t : List ℕ) (vs : List ℤ) (selection : List ℕ) (ws : List ℤ) (number place first bytes lines : ℕ)
    (s : Sums t vs selection ws number place first bytes lines) (l : place < length t) (x : Layout) (q : x ≡ layout_at t place) where
  pub sums_standing : Standing t vs selection ws (record { number = number; place = place; layout = x; first = first })
  sums_standing = rw q (standing t vs selection ws number place first s.done s.passed l)

  here : List Change
  here = module_changes selection (module_here t number place first) vs ws

  module _ (f : Measured) (g : MeasuresModule t (module_changes selection (record { number = number; place = place; layout = x; first = first }) vs ws) f) where
    is : f ≡ measured t here
    unfolding here
    is = rw q at g.measures.is

    pub sums_beyond : f ≡ Beyond → Measures t (all_changes t vs selection ws) Beyond
    unfolding here
    sums_beyond e =
        let r : all_reachable t here ≡ false = beyond_told t here (sym e ∙ is) in
        let w = walk_changes t vs selection ws number place first s.done s.passed l (length (rows_of (layout_at t place))) refl (body_length (get_or t place 0)) refl in
        measures_by t (all_changes t vs selection ws) Beyond
        (beyond_first t (all_changes t vs selection ws) (s.done ++ here) _ w.split (reachable-append t s.done here ∙ rw (s.reach, r) refl))

    module _ (b c : ℕ) (e : f ≡ Within b c) where
      told : (all_reachable t here ≡ true) × (b ≡ length (listing t here)) × (c ≡ length here)
      unfolding here
      told = within-told t here b c (sym e ∙ is)

      pub sums_bytes_fit : Fits w64 (bytes + b)
      unfolding row_limit
      sums_bytes_fit = record { fits = omega (arith, s.short, g.few.bytes b c e, walk_few t number place first s.walk l) }

      pub sums_lines_fit : Fits w64 (lines + c)
      unfolding row_limit
      sums_lines_fit = record { fits = omega (arith, s.few, g.few.lines b c e, walk_few t number place first s.walk l) }

      pub sums_next : (size rows : ℕ) → size ≡ body_length (get_or t place 0) → rows ≡ length (rows_of (layout_at t place))
          → Sums t vs selection ws (number + 1) (place + 1 + size) (first + rows) (bytes + b) (lines + c)
      unfolding here row_limit
      sums_next size rows k n =
          let p = walk_changes t vs selection ws number place first s.done s.passed l rows n size k in
          let u = told in
          record {
            walk = p.counted.walk;
            done = s.done ++ here;
            passed = p;
            reach = reachable-append t s.done here ∙ rw (s.reach, u.0) refl;
            bytes-are = rw (listing-append t s.done here) (omega (arith, s.bytes-are, u.1, length-append (listing t s.done) (listing t here)));
            lines_are = omega (arith, s.lines_are, u.2, length-append s.done here);
            short = omega (arith, s.short, g.few.bytes b c e);
            few = omega (arith, s.few, g.few.lines b c e);
          }

pub sums_all : (t : List ℕ) (vs : List ℤ) (selection : List ℕ) (ws : List ℤ) (number place first bytes lines : ℕ)
    → Sums t vs selection ws number place first bytes lines → length t ≤ place → Measures t (all_changes t vs selection ws) (Within bytes lines)
unfolding measured measured_if
sums_all t vs selection ws number place first bytes lines s l =
    measures_by t (all_changes t vs selection ws) (Within bytes lines)
    (rw (walk_all t vs selection ws number place first s.done s.passed l, s.reach, s.bytes-are, s.lines_are) refl)

-- ---- the same by the module that the walk gives

pub sums_begun : (t : List ℕ) (vs : List ℤ) (selection : List ℕ) (ws : List ℤ) (number place first : ℕ) → Matching t vs selection ws → number ≡ 0 → place ≡ 0 → first ≡ 0
    → Sums t vs selection ws number place first 0 0
sums_begun t vs selection ws number place first h a b c = rw (a, b, c) (sums_start t vs selection ws h)

module _ (t : List ℕ) (vs : List ℤ) (selection : List ℕ) (ws : List ℤ) (number place first bytes lines : ℕ) (m : Module) (next_number next_place next_first : ℕ)
    (st : Step t number place first m next_number next_place next_first) (s : Sums t vs selection ws number place first bytes lines) where
  pub sum_standing : Standing t vs selection ws m
  sum_standing =
      at_module t number place first m next_number next_place next_first st (λ x. Standing t vs selection ws x)
      (sums_standing t vs selection ws number place first bytes lines s st.inside (layout_at t place) refl)

  module _ (f : Measured) (g : MeasuresModule t (module_changes selection m vs ws) f) where
    own : MeasuresModule t (module_changes selection (module_here t number place first) vs ws) f
    own = rw st.gives at g

    pub sum_beyond : f ≡ Beyond → Measures t (all_changes t vs selection ws) Beyond
    sum_beyond e = sums_beyond t vs selection ws number place first bytes lines s st.inside (layout_at t place) refl f own e

    module _ (b c : ℕ) (e : f ≡ Within b c) where
      pub sum_bytes_fit : Fits w64 (bytes + b)
      sum_bytes_fit = sums_bytes_fit t vs selection ws number place first bytes lines s st.inside (layout_at t place) refl f own b c e

      pub sum_lines_fit : Fits w64 (lines + c)
      sum_lines_fit = sums_lines_fit t vs selection ws number place first bytes lines s st.inside (layout_at t place) refl f own b c e

      pub sum_next : Sums t vs selection ws next_number next_place next_first (bytes + b) (lines + c)
      sum_next =
          at_next t number place first m next_number next_place next_first st (λ n p d. Sums t vs selection ws n p d (bytes + b) (lines + c))
          (sums_next t vs selection ws number place first bytes lines s st.inside (layout_at t place) refl f own b c e
          (body_length (get_or t place 0)) (length (rows_of (layout_at t place))) refl refl)

pub ruleset summing =
    (sums_begun, sums_start, sums_standing, sums_beyond, sums_bytes_fit, sums_lines_fit, sums_next, sums_all)
