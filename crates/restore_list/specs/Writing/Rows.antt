-- Rules for writing the lines of a module's rows.
use Rattle.std.specs.Prelude.{◌≡◌, refl, List, [], ◌∷◌, ◌++◌, ℕ, ◌+◌, ◌≤◌, ◌<◌, ℤ, pos, get_or, true}
use Rattle.std.proofs.Common.{◌∙◌, arith, length-append, SFits, of_z, to_z}
use Rattle.std.proofs.Math.ListN.{length}
use Rattle.std.proofs.Math.Facts.{to_z-of_z}
use Rattle.std.specs.Int.{w64}
use Rattle.catalogue.specs.Catalogue.{fixed, row_of, rows_of}
use Rattle.catalogue.specs.declared.groups.Part.TheVariants.{Whole}
use Rattle.catalogue.specs.declared.row.Row.{Row}
use Rattle.text.specs.Written.{Wrote}
use Rattle.text.specs.Written.Laws.{wrote_join, wrote_length, wrote_nothing, past_by}
use Rattle.values.specs.Parameters.Laws.{parameter_of}
use Rattle.room.specs.declared.table.Module.{Module}
use Rattle.spelling.specs.Line.{line_for}
use Rattle.spelling.specs.Say.{say}
use Rattle.wish.specs.Listing.{Change, listing}
use Rattle.wish.specs.Listing.Laws.{first_fits, listing-append, listing_none, one_line}
use Rattle.restore_list.specs.Measuring.{row_changes}
use Rattle.restore_list.specs.Measuring.Listed.{whole-said}
use Rattle.values.specs.Values.Compared.{bits-differ, bits-equal}
use Rattle.restore_list.specs.Measuring.RowWalk.{RowWalk, change_of, row_inside, rows_all, rows_differ_lem, rows_equal, rows_start}

-- the lines of the first j rows were written
pub record RowsPut (t : List ℕ) (m : Module) (vs ws : List ℤ) (buffer : List ℕ) (start : ℕ) (after : List ℕ) (at j : ℕ) : Type 0 where
  pub done : List Change
  pub walk : RowWalk m vs ws j done
  pub room : start + length (listing t (row_changes m vs ws)) ≤ length buffer
  pub wrote : Wrote buffer start (listing t done) at after
  pub long : length after ≡ length buffer

pub put_none : (t : List ℕ) (m : Module) (vs ws : List ℤ) (buffer : List ℕ) (start : ℕ) → length vs ≡ length (rows_of m.layout) → length ws ≡ length (rows_of m.layout)
    → start + length (listing t (row_changes m vs ws)) ≤ length buffer → RowsPut t m vs ws buffer start buffer start 0
put_none t m vs ws buffer start e f h =
    record { done = []; walk = rows_start m vs ws e f; room = h; wrote = rw (listing_none t) (wrote_nothing buffer start); long = refl }

module _ (t : List ℕ) (m : Module) (vs ws : List ℤ) (buffer : List ℕ) (start : ℕ) (after : List ℕ) (at j : ℕ) (s : RowsPut t m vs ws buffer start after at j) (l : j < length vs) where
  pub put_exists : j < length (rows_of m.layout)
  put_exists = row_inside m vs ws j s.done s.walk l

  pub put_wanted : j < length ws
  put_wanted = omega (arith, put_exists, s.walk.wanted)

  pub put_equal : SFits w64 (get_or vs j (pos 0)) → SFits w64 (get_or ws j (pos 0)) → of_z w64 (get_or vs j (pos 0)) ≡ of_z w64 (get_or ws j (pos 0))
      → RowsPut t m vs ws buffer start after at (j + 1)
  put_equal f g e =
      record {
        done = s.done;
        walk = rows_equal m vs ws j s.done s.walk l (bits-equal (get_or vs j (pos 0)) (get_or ws j (pos 0)) f g e);
        room = s.room;
        wrote = s.wrote;
        long = s.long;
      }

  module _ (d : of_z w64 (get_or vs j (pos 0)) ≡ of_z w64 (get_or ws j (pos 0)) → ⊥) (f : SFits w64 (get_or vs j (pos 0))) (g : SFits w64 (get_or ws j (pos 0)))
      (r : Row) (e : r ≡ row_of m.layout j) where
    text : List ℕ
    text = say t (parameter_of m j) (get_or vs j (pos 0)) (get_or ws j (pos 0)) ++ (0x0D ∷ [])

    next : RowWalk m vs ws (j + 1) (s.done ++ change_of m vs ws j ∷ [])
    next = rows_differ_lem m vs ws j s.done s.walk l (bits-differ (get_or vs j (pos 0)) (get_or ws j (pos 0)) d)

    texts : listing t (s.done ++ change_of m vs ws j ∷ []) ≡ listing t s.done ++ text
    unfolding text
    texts = rw (listing-append t s.done (change_of m vs ws j ∷ []), one_line t (change_of m vs ws j))

    pub put_room : at + length (say t (record { owner = m; number = j; row = r }) (to_z w64 (of_z w64 (get_or vs j (pos 0)))) (to_z w64 (of_z w64 (get_or ws j (pos 0)))) ++ (0x0D ∷ [])) ≤ length after
    unfolding text
    put_room =
        let h = first_fits t (row_changes m vs ws) (s.done ++ change_of m vs ws j ∷ []) _ start (length buffer) next.split s.room in
        let k : length (listing t (s.done ++ change_of m vs ws j ∷ [])) ≡ length (listing t s.done) + length text = rw texts (length-append (listing t s.done) text) in
        rw (to_z-of_z f, to_z-of_z g, e) (omega (arith, h, k, past_by s.wrote, s.long))

    pub put_line : (n : ℕ) (new : List ℕ)
        → Wrote after at (say t (record { owner = m; number = j; row = r }) (to_z w64 (of_z w64 (get_or vs j (pos 0)))) (to_z w64 (of_z w64 (get_or ws j (pos 0)))) ++ (0x0D ∷ [])) n new
        → RowsPut t m vs ws buffer start new n (j + 1)
    unfolding text
    put_line n new w =
        let put : Wrote after at text n new = rw (to_z-of_z f, to_z-of_z g, e) at w in
        record {
          done = s.done ++ change_of m vs ws j ∷ [];
          walk = next;
          room = s.room;
          wrote = rw texts (wrote_join s.wrote put);
          long = wrote_length put ∙ s.long;
        }

    module _ (x : fixed m.layout.kind ≡ true) where
      same : say t (record { owner = m; number = j; row = r }) (to_z w64 (of_z w64 (get_or vs j (pos 0)))) (to_z w64 (of_z w64 (get_or ws j (pos 0))))
          ≡ line_for 0x53 t (record { owner = m; number = j; row = r }) Whole (to_z w64 (of_z w64 (get_or ws j (pos 0))))
      same = whole-said t m j r (to_z w64 (of_z w64 (get_or vs j (pos 0)))) (to_z w64 (of_z w64 (get_or ws j (pos 0)))) x put_exists e

      pub put_listed_room : at + length (line_for 0x53 t (record { owner = m; number = j; row = r }) Whole (to_z w64 (of_z w64 (get_or ws j (pos 0)))) ++ (0x0D ∷ [])) ≤ length after
      put_listed_room = rw same at put_room

      pub put_listed_line : (n : ℕ) (new : List ℕ)
          → Wrote after at (line_for 0x53 t (record { owner = m; number = j; row = r }) Whole (to_z w64 (of_z w64 (get_or ws j (pos 0)))) ++ (0x0D ∷ [])) n new
          → RowsPut t m vs ws buffer start new n (j + 1)
      put_listed_line n new w = put_line n new (rw same w)

pub put_length : (t : List ℕ) (m : Module) (vs ws : List ℤ) (buffer : List ℕ) (start : ℕ) (after : List ℕ) (at j : ℕ) → RowsPut t m vs ws buffer start after at j → length after ≡ length buffer
put_length t m vs ws buffer start after at j s = s.long

pub put_all : (t : List ℕ) (m : Module) (vs ws : List ℤ) (buffer : List ℕ) (start : ℕ) (after : List ℕ) (at j : ℕ) → RowsPut t m vs ws buffer start after at j → length vs ≤ j
    → Wrote buffer start (listing t (row_changes m vs ws)) at after
put_all t m vs ws buffer start after at j s l = rw (rows_all m vs ws j s.done s.walk l) s.wrote

pub ruleset row_putting = (put_none, put_exists, put_wanted, put_equal, put_room, put_line, put_length, put_all)

pub ruleset listed_putting = (put_none, put_exists, put_wanted, put_equal, put_listed_room, put_listed_line, put_length, put_all)
