-- Rules for writing the whole list, module by module.
use Rattle.std.specs.Prelude.{◌≡◌, List, [], ◌++◌, ℕ, ◌+◌, ◌≤◌, ◌<◌, ℤ, get_or}
use Rattle.std.proofs.Math.Path.{refl}
use Rattle.std.proofs.Common.{◌∙◌, arith, length-append}
use Rattle.std.proofs.Math.ListN.{length}
use Rattle.catalogue.specs.Catalogue.{rows_of}
use Rattle.catalogue.specs.declared.layout.Layout.{Layout}
use Rattle.text.specs.Written.{Wrote}
use Rattle.text.specs.Written.Laws.{wrote_join, wrote_length, wrote_nothing, past_by}
use Rattle.record.specs.Body.{body_length}
use Rattle.record.specs.Layout.{layout_at}
use Rattle.room.specs.Table.Steps.{Step, at_module, at_next}
use Rattle.room.specs.Table.Walk.{Walk}
use Rattle.room.specs.declared.table.Module.{Module}
use Rattle.values.specs.Parameters.Walk.{module_here}
use Rattle.wish.specs.Listing.{Change, listing}
use Rattle.wish.specs.Listing.Laws.{first_fits, listing-append, listing_none}
use Rattle.restore_list.specs.Measuring.{Matching, Standing, all_changes, module_changes}
use Rattle.restore_list.specs.Measuring.Walk.{ChangeWalk, standing, walk_all, walk_changes, walk_none}

-- the lines of the records passed were written
pub record Puts (t : List ℕ) (vs : List ℤ) (selection : List ℕ) (ws : List ℤ) (buffer after : List ℕ) (number place first at : ℕ) : Type 0 where
  pub walk : Walk t number place first
  pub done : List Change
  pub passed : ChangeWalk t vs selection ws number place first done
  pub room : length (listing t (all_changes t vs selection ws)) ≤ length buffer
  pub wrote : Wrote buffer 0 (listing t done) at after
  pub long : length after ≡ length buffer

pub puts-start : (t : List ℕ) (vs : List ℤ) (selection : List ℕ) (ws : List ℤ) (buffer : List ℕ) → Matching t vs selection ws
    → length (listing t (all_changes t vs selection ws)) ≤ length buffer → Puts t vs selection ws buffer buffer 0 0 0 0
puts-start t vs selection ws buffer a h =
    let s = walk_none t vs selection ws a in
    record {
      walk = s.counted.walk;
      done = [];
      passed = s;
      room = h;
      wrote = rw (listing_none t) (wrote_nothing buffer 0);
      long = refl;
    }

module _ (t : List ℕ) (vs : List ℤ) (selection : List ℕ) (ws : List ℤ) (buffer after : List ℕ) (number place first at : ℕ)
    (s : Puts t vs selection ws buffer after number place first at) (l : place < length t) (x : Layout) (q : x ≡ layout_at t place) where
  here : List Change
  here = module_changes selection (module_here t number place first) vs ws

  pub puts-standing : Standing t vs selection ws (record { number = number; place = place; layout = x; first = first })
  puts-standing = rw q (standing t vs selection ws number place first s.done s.passed l)

  pub puts-room : at + length (listing t (module_changes selection (record { number = number; place = place; layout = x; first = first }) vs ws)) ≤ length after
  unfolding here
  puts-room =
      let w = walk_changes t vs selection ws number place first s.done s.passed l (length (rows_of (layout_at t place))) refl (body_length (get_or t place 0)) refl in
      let h = first_fits t (all_changes t vs selection ws) (s.done ++ here) _ 0 (length buffer) w.split (omega (arith, s.room)) in
      let k : length (listing t (s.done ++ here)) ≡ length (listing t s.done) + length (listing t here) =
      rw (listing-append t s.done here) (length-append (listing t s.done) (listing t here)) in
      rw q (omega (arith, h, k, past_by s.wrote, s.long))

  pub puts-next : (r : ℕ) (new : List ℕ) (size rows : ℕ) → Wrote after at (listing t (module_changes selection (record { number = number; place = place; layout = x; first = first }) vs ws)) r new
      → size ≡ body_length (get_or t place 0) → rows ≡ length (rows_of (layout_at t place))
      → Puts t vs selection ws buffer new (number + 1) (place + 1 + size) (first + rows) r
  unfolding here
  puts-next r new size rows w e n =
      let p = walk_changes t vs selection ws number place first s.done s.passed l rows n size e in
      let own : Wrote after at (listing t here) r new = rw q at w in
      record {
        walk = p.counted.walk;
        done = s.done ++ here;
        passed = p;
        room = s.room;
        wrote = rw (listing-append t s.done here) (wrote_join s.wrote own);
        long = wrote_length own ∙ s.long;
      }

-- ---- the same by the module that the walk gives

pub puts-begun : (t : List ℕ) (vs : List ℤ) (selection : List ℕ) (ws : List ℤ) (buffer : List ℕ) (number place first : ℕ) → Matching t vs selection ws
    → length (listing t (all_changes t vs selection ws)) ≤ length buffer → number ≡ 0 → place ≡ 0 → first ≡ 0 → Puts t vs selection ws buffer buffer number place first 0
puts-begun t vs selection ws buffer number place first h l a b c = rw (a, b, c) (puts-start t vs selection ws buffer h l)

module _ (t : List ℕ) (vs : List ℤ) (selection : List ℕ) (ws : List ℤ) (buffer after : List ℕ) (number place first at : ℕ) (m : Module) (next_number next_place next_first : ℕ)
    (st : Step t number place first m next_number next_place next_first) (s : Puts t vs selection ws buffer after number place first at) where
  pub put_standing : Standing t vs selection ws m
  put_standing =
      at_module t number place first m next_number next_place next_first st (λ x. Standing t vs selection ws x)
      (puts-standing t vs selection ws buffer after number place first at s st.inside (layout_at t place) refl)

  pub put_room : at + length (listing t (module_changes selection m vs ws)) ≤ length after
  put_room =
      at_module t number place first m next_number next_place next_first st (λ x. at + length (listing t (module_changes selection x vs ws)) ≤ length after)
      (puts-room t vs selection ws buffer after number place first at s st.inside (layout_at t place) refl)

  pub put_next : (r : ℕ) (new : List ℕ) → Wrote after at (listing t (module_changes selection m vs ws)) r new → Puts t vs selection ws buffer new next_number next_place next_first r
  put_next r new w =
      at_next t number place first m next_number next_place next_first st (λ n p d. Puts t vs selection ws buffer new n p d r)
      (puts-next t vs selection ws buffer after number place first at s st.inside (layout_at t place) refl r new
      (body_length (get_or t place 0)) (length (rows_of (layout_at t place))) (rw st.gives at w) refl refl)

module _ (t : List ℕ) (vs : List ℤ) (selection : List ℕ) (ws : List ℤ) (buffer after : List ℕ) (number place first at : ℕ)
    (s : Puts t vs selection ws buffer after number place first at) where
  pub puts-length : length after ≡ length buffer
  puts-length = s.long

  pub puts-all : length t ≤ place → Wrote buffer 0 (listing t (all_changes t vs selection ws)) at after
  puts-all l = rw (walk_all t vs selection ws number place first s.done s.passed l) s.wrote

pub ruleset putting = (puts-begun, puts-start, puts-standing, puts-room, puts-next, puts-length, puts-all)
