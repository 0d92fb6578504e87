-- Rules for measuring the changes of a module's rows.
use Rattle.std.specs.Prelude.{◌≡◌, refl, Bool, not, List, [], ◌∷◌, ◌++◌, ℕ, ◌+◌, ◌*◌, ◌≤◌, ◌<◌, ℤ, pos, get_or}
use Rattle.std.proofs.Common.{ap, ◌∙◌, arith, to_z-of_z, Fits, SFits, of_z, to_z}
use Rattle.std.proofs.Math.Path.{sym}
use Rattle.std.proofs.Math.Bool.{true, false}
use Rattle.std.proofs.lemmas.Bool.{not-false, not-true}
use Rattle.std.proofs.Math.ListN.{length, length-append}
use Rattle.std.specs.Int.{w64}
use Rattle.catalogue.specs.Catalogue.{fixed, known_layout, row_limit, row_of, rows_of}
use Rattle.catalogue.specs.Catalogue.Laws.{rows_few}
use Rattle.catalogue.specs.Catalogue.Modules.{row_sized}
use Rattle.catalogue.specs.declared.groups.Part.TheVariants.{Whole}
use Rattle.catalogue.specs.declared.row.Row.{Row}
use Rattle.values.specs.Parameters.Laws.{parameter_of}
use Rattle.room.specs.declared.table.Module.{Module}
use Rattle.spelling.specs.Line.{line_for}
use Rattle.spelling.specs.Say.{say}
use Rattle.spelling.specs.Say.Length.{say-short}
use Rattle.wish.specs.Listing.{Change, listing}
use Rattle.wish.specs.Listing.Laws.{listing-append, listing_none, one_line}
use Rattle.wish.specs.Listing.Settable.{all_settable}
use Rattle.wish.proofs.Laws.Listing.Settable.{settable_append, settable_none, settable_one}
use Rattle.restore_list.specs.Measuring.{Settles, measured_if, row_changes}
use Rattle.restore_list.specs.Measuring.Listed.{whole-said}
use Rattle.values.specs.Values.Compared.{bits-differ, bits-equal}
use Rattle.restore_list.specs.Measuring.RowWalk.{RowWalk, change_of, row_inside, rows_all, rows_differ_lem, rows_equal, rows_start}
use Rattle.restore_list.specs.Measuring.Told.{few_beyond, few_within}
use Rattle.restore_list.specs.declared.module_measuring.Measured.TheVariants.{Within, Beyond}

-- the changes of the first j rows can be set, and have so many bytes and lines
pub record Rows (t : List ℕ) (m : Module) (vs ws : List ℤ) (bytes lines j : ℕ) : Type 0 where
  pub known : known_layout m.layout ≡ true
  pub done : List Change
  pub walk : RowWalk m vs ws j done
  pub settable : all_settable done ≡ true
  pub bytes-are : bytes ≡ length (listing t done)
  pub lines_are : lines ≡ length done
  pub short : bytes ≤ 128 * j
  pub few : lines ≤ j

pub rows_none : (t : List ℕ) (m : Module) (vs ws : List ℤ) → known_layout m.layout ≡ true → length vs ≡ length (rows_of m.layout) → length ws ≡ length (rows_of m.layout)
    → Rows t m vs ws 0 0 0
rows_none t m vs ws k e f =
    record {
      known = k;
      done = [];
      walk = rows_start m vs ws e f;
      settable = settable_none;
      bytes-are = rw (listing_none t) refl;
      lines_are = refl;
      short = omega arith;
      few = omega arith;
    }

wrong_first : (cs done rest : List Change) → cs ≡ done ++ rest → all_settable done ≡ false → all_settable cs ≡ false
wrong_first cs done rest e h = rw (e, settable_append done rest, h) refl

module _ (t : List ℕ) (m : Module) (vs ws : List ℤ) (bytes lines j : ℕ) (s : Rows t m vs ws bytes lines j) (l : j < length vs) where
  pub row_exists : j < length (rows_of m.layout)
  row_exists = row_inside m vs ws j s.done s.walk l

  pub row_wanted : j < length ws
  row_wanted = omega (arith, row_exists, s.walk.wanted)

  pub row_equal : SFits w64 (get_or vs j (pos 0)) → SFits w64 (get_or ws j (pos 0)) → of_z w64 (get_or vs j (pos 0)) ≡ of_z w64 (get_or ws j (pos 0))
      → Rows t m vs ws bytes lines (j + 1)
  row_equal f g e =
      record {
        known = s.known;
        done = s.done;
        walk = rows_equal m vs ws j s.done s.walk l (bits-equal (get_or vs j (pos 0)) (get_or ws j (pos 0)) f g e);
        settable = s.settable;
        bytes-are = s.bytes-are;
        lines_are = s.lines_are;
        short = omega (arith, s.short);
        few = omega (arith, s.few);
      }

  module _ (d : of_z w64 (get_or vs j (pos 0)) ≡ of_z w64 (get_or ws j (pos 0)) → ⊥) (r : Row) (e : r ≡ row_of m.layout j) where
    here : Change
    here = change_of m vs ws j

    differs : RowWalk m vs ws (j + 1) (s.done ++ here ∷ [])
    unfolding here
    differs = rows_differ_lem m vs ws j s.done s.walk l (bits-differ (get_or vs j (pos 0)) (get_or ws j (pos 0)) d)

    with_here : (b : Bool) → r.settable ≡ b → all_settable (s.done ++ here ∷ []) ≡ b
    unfolding here
    with_here b q =
        settable_append s.done (here ∷ [])
        ∙ rw (s.settable, settable_one here, sym (ap (λ (x : Row). x.settable) e), q)

    pub row_read_only : not r.settable ≡ true → Settles t (row_changes m vs ws) Beyond
    unfolding measured_if
    row_read_only h =
        let q = wrong_first (row_changes m vs ws) (s.done ++ here ∷ []) _ differs.split (with_here false (not-true r.settable h)) in
        record {
          is = rw q refl;
          few = few_beyond;
        }

    -- the line is short from whatever value it is said, so that one measured from another is refused for its length
    module _ (n : ℕ) (from : ℤ) (g : SFits w64 (get_or ws j (pos 0)))
        (k : n ≡ length (say t (record { owner = m; number = j; row = r }) from (to_z w64 (of_z w64 (get_or ws j (pos 0)))) ++ (0x0D ∷ []))) where
      line_few : n ≤ 128
      line_few =
          let h = say-short t (parameter_of m j) from (get_or ws j (pos 0)) (row_sized m.layout j s.known row_exists) g in
          let i : n ≡ length (say t (parameter_of m j) from (get_or ws j (pos 0)) ++ (0x0D ∷ [])) = rw (to_z-of_z g, e) at k in
          omega arith

      pub row_bytes_fit : Fits w64 (bytes + n)
      unfolding row_limit
      row_bytes_fit = record { fits = omega (arith, line_few, s.short, row_exists, rows_few m.layout s.known) }

    pub row_lines_fit : Fits w64 (lines + 1)
    unfolding row_limit
    row_lines_fit = record { fits = omega (arith, s.few, row_exists, rows_few m.layout s.known) }

    module _ (n : ℕ) (f : SFits w64 (get_or vs j (pos 0))) (g : SFits w64 (get_or ws j (pos 0)))
        (k : n ≡ length (say t (record { owner = m; number = j; row = r }) (to_z w64 (of_z w64 (get_or vs j (pos 0)))) (to_z w64 (of_z w64 (get_or ws j (pos 0)))) ++ (0x0D ∷ []))) where
      line_is : n ≡ length (say t (parameter_of m j) (get_or vs j (pos 0)) (get_or ws j (pos 0)) ++ (0x0D ∷ []))
      line_is = rw (to_z-of_z f, to_z-of_z g, e) at k

      pub row_line : not r.settable ≡ false → Rows t m vs ws (bytes + n) (lines + 1) (j + 1)
      unfolding here
      row_line h =
          let long : length (listing t (s.done ++ here ∷ [])) ≡ bytes + n =
          rw (listing-append t s.done (here ∷ []), one_line t here, length-append (listing t s.done) (say t (parameter_of m j) (get_or vs j (pos 0)) (get_or ws j (pos 0)) ++ (0x0D ∷ [])))
          (omega (arith, s.bytes-are, line_is)) in
          record {
            known = s.known;
            done = s.done ++ here ∷ [];
            walk = differs;
            settable = with_here true (not-false r.settable h);
            bytes-are = sym long;
            lines_are = omega (arith, s.lines_are, length-append s.done (here ∷ []));
            short = omega (arith, s.short, line_few n _ g k);
            few = omega (arith, s.few);
          }

    -- of a module that is no mixer the line says the whole value
    module _ (n : ℕ) (f : SFits w64 (get_or vs j (pos 0))) (g : SFits w64 (get_or ws j (pos 0))) (x : fixed m.layout.kind ≡ true)
        (k : n ≡ length (line_for 0x53 t (record { owner = m; number = j; row = r }) Whole (to_z w64 (of_z w64 (get_or ws j (pos 0)))) ++ (0x0D ∷ []))) where
      pub listed_line : not r.settable ≡ false → Rows t m vs ws (bytes + n) (lines + 1) (j + 1)
      listed_line =
          row_line n f g (rw (whole-said t m j r (to_z w64 (of_z w64 (get_or vs j (pos 0)))) (to_z w64 (of_z w64 (get_or ws j (pos 0)))) x row_exists e) k)

    pub listed_bytes_fit : (n : ℕ) → n ≤ 128 → Fits w64 (bytes + n)
    unfolding row_limit
    listed_bytes_fit n h = record { fits = omega (arith, s.short, row_exists, rows_few m.layout s.known) }

pub rows_measured : (t : List ℕ) (m : Module) (vs ws : List ℤ) (bytes lines j : ℕ) → Rows t m vs ws bytes lines j → length vs ≤ j
    → Settles t (row_changes m vs ws) (Within bytes lines)
unfolding measured_if
rows_measured t m vs ws bytes lines j s l =
    record {
      is = rw (rows_all m vs ws j s.done s.walk l, s.settable, s.bytes-are, s.lines_are) refl;
      few =
          few_within bytes lines (omega (arith, s.short, s.walk.within, s.walk.many, rows_few m.layout s.known))
          (omega (arith, s.few, s.walk.within, s.walk.many, rows_few m.layout s.known));
    }

pub ruleset row_measuring = (rows_none, row_exists, row_wanted, row_equal, row_read_only, row_bytes_fit, row_lines_fit, row_line, rows_measured)

pub ruleset listed_measuring = (rows_none, row_exists, row_wanted, row_equal, row_read_only, listed_bytes_fit, row_lines_fit, listed_line, rows_measured)
