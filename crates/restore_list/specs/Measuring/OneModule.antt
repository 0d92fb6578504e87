-- Rules for measuring the changes of a module.
use Rattle.std.specs.Prelude.{◌≡◌, refl, Bool, true, false, not, List, [], ℕ, ℤ, length, get_or}
use Rattle.std.proofs.Common.{sym, ◌∙◌, arith}
use borrow.Author.Tests.{eq-eqb, ne_eqb, not-false, not-true}
use Rattle.room.specs.Label.{bearer, label}
use Rattle.room.specs.declared.table.Module.{Module}
use Rattle.wish.specs.Listing.{Change, all_reachable, borne_once, listing}
use Rattle.wish.specs.Listing.Laws.{listing_none, no_change, reachable-none}
use Rattle.wish.specs.Listing.Settable.{all_settable}
use Rattle.wish.proofs.Laws.Listing.Settable.{module_reached, module_shared, read_only_beyond}
use Rattle.restore_list.specs.Measuring.{Few, MeasuresModule, Settles, measured, measured_if, module_changes, row_changes, values_of}
use Rattle.restore_list.specs.Measuring.Told.{few_beyond, few_within, flag_beyond, flag_within, measures_by}
use Rattle.restore_list.specs.declared.module_measuring.Measured.{Measured}
use Rattle.restore_list.specs.declared.module_measuring.Measured.TheVariants.{Within, Beyond}

-- ---- a module that is not chosen

nothing_measured : (t : List ℕ) → Within 0 0 ≡ measured t []
unfolding measured measured_if
nothing_measured t = rw (reachable-none t, listing_none t) refl

pub module_unchosen : (t selection : List ℕ) (m : Module) (vs ws : List ℤ) → (get_or selection m.number 0 ≡ 1 → ⊥)
    → MeasuresModule t (module_changes selection m vs ws) (Within 0 0)
unfolding module_changes
module_unchosen t selection m vs ws h =
    record {
      measures = measures_by t (module_changes selection m vs ws) (Within 0 0) (rw (ne_eqb (get_or selection m.number 0) 1 h) (nothing_measured t));
      few = few_within 0 0 (omega arith) (omega arith);
    }

-- ---- one that is: its changes are those of its rows

abbrev own : Module → (present wanted : List ℤ) → List Change
own m vs ws = row_changes m (values_of m vs) (values_of m ws)

chosen-changes : (selection : List ℕ) (m : Module) (vs ws : List ℤ) → get_or selection m.number 0 ≡ 1 → module_changes selection m vs ws ≡ own m vs ws
unfolding module_changes
chosen-changes selection m vs ws h = rw (eq-eqb (get_or selection m.number 0) 1 h)

within_by : (t : List ℕ) (cs : List Change) (bytes lines : ℕ) (b : Bool) → Within bytes lines ≡ measured_if b t cs → all_reachable t cs ≡ true
    → Within bytes lines ≡ measured t cs
unfolding measured
within_by t cs bytes lines b e h = e ∙ rw ((flag_within b t cs bytes lines e).0, h)

beyond_by : (t : List ℕ) (cs : List Change) → all_reachable t cs ≡ false → Beyond ≡ measured t cs
unfolding measured measured_if
beyond_by t cs h = rw h refl

module _ (t selection : List ℕ) (m : Module) (vs ws : List ℤ) (k : get_or selection m.number 0 ≡ 1) (f : Measured) (s : Settles t (row_changes m (values_of m vs) (values_of m ws)) f) where
  answers : (r : Measured) → r ≡ measured t (own m vs ws) → Few r → MeasuresModule t (module_changes selection m vs ws) r
  answers r e few = rw (chosen-changes selection m vs ws k) (record { measures = measures_by t (own m vs ws) r e; few = few })

  pub module_read_only : f ≡ Beyond → MeasuresModule t (module_changes selection m vs ws) Beyond
  module_read_only e =
      let b = flag_beyond (all_settable (own m vs ws)) t (own m vs ws) (sym e ∙ s.is) in
      answers Beyond (beyond_by t (own m vs ws) (read_only_beyond t (own m vs ws) b)) few_beyond

  module _ (bytes lines : ℕ) (e : f ≡ Within bytes lines) where
    told : Within bytes lines ≡ measured_if (all_settable (own m vs ws)) t (own m vs ws)
    told = sym e ∙ s.is

    settles : (all_settable (own m vs ws) ≡ true) × (bytes ≡ length (listing t (own m vs ws))) × (lines ≡ length (own m vs ws))
    settles = flag_within (all_settable (own m vs ws)) t (own m vs ws) bytes lines told

    within : all_reachable t (own m vs ws) ≡ true → MeasuresModule t (module_changes selection m vs ws) (Within bytes lines)
    within h = answers (Within bytes lines) (within_by t (own m vs ws) bytes lines (all_settable (own m vs ws)) told h) (rw e at s.few)

    pub module_unchanged : lines ≡ 0 → MeasuresModule t (module_changes selection m vs ws) (Within bytes lines)
    module_unchanged h = within (no_change t (own m vs ws) (omega (arith, settles.2)))

    module _ (n : lines ≡ 0 → ⊥) (q : Bool) (g : q ≡ borne_once (bearer t (label t m))) where
      pub module_label_shared : not q ≡ true → MeasuresModule t (module_changes selection m vs ws) Beyond
      module_label_shared h =
          let r : all_reachable t (own m vs ws) ≡ false =
          unfold row_changes in module_shared t m (values_of m vs) (values_of m ws) (sym g ∙ not-true q h) (λ z. n (omega (arith, settles.2))) in
          answers Beyond (beyond_by t (own m vs ws) r) few_beyond

      pub module_label_own : not q ≡ false → MeasuresModule t (module_changes selection m vs ws) (Within bytes lines)
      module_label_own h =
          let r : all_reachable t (own m vs ws) ≡ all_settable (own m vs ws) =
          unfold row_changes in module_reached t m (values_of m vs) (values_of m ws) (sym g ∙ not-false q h) in
          within (r ∙ settles.0)

pub ruleset module_measuring = (module_unchosen, module_read_only, module_unchanged, module_label_shared, module_label_own)
