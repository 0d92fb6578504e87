-- Demand 3 holds. The list fulfils the wish, as each of its lines sets its parameter; and no sequence that does is shorter, as no line
-- lowers the price of what is left by more than its bytes. A parameter beyond reach stays as it is, whatever is played.
use Rattle.std.specs.Prelude.{◌≡◌, Bool, List, ℕ, ◌≤◌, leb, pos, length, get_or}
use Rattle.std.proofs.Math.Path.{refl, ap}
use Rattle.std.proofs.Common.{sym, ◌∙◌, arith, leb-true, leb-false}
use Rattle.std.proofs.Math.Bool.{true, false}
use Rattle.std.proofs.lemmas.List.Edits.{sets}
use Rattle.values.specs.Parameters.{parameters}
use Rattle.serial_port.specs.Server.{control_space}
use Rattle.serial_port.specs.Port.{fresh}
use Rattle.serial_port.specs.Port.Laws.{fresh-few}
use Rattle.serial_port.specs.Refusal.{reply_limit}
use Rattle.serial_port.specs.Call.Laws.{written_first}
use Rattle.serial_port.specs.Play.{play, feed}
use Rattle.serial_port.specs.Play.Acknowledged.{acknowledged}
use Rattle.serial_port.specs.Play.Kept.{answers_lower, feed-keeps, bound}
use Rattle.serial_port.specs.Play.Laws.{Right, keeps_right, plays}
use Rattle.wish.specs.Target.{Wish, target}
use Rattle.wish.specs.Target.Laws.{target_right}
use Rattle.restore.specs.Demand.Lines.{Lines}
use Rattle.restore.proofs.Laws.Demand.Lines.Promise.{promise}
use Rattle.restore.specs.Demand.Lines.Reach.{Stays, keeps_unreachable}
use Rattle.restore.proofs.Laws.Demand.Lines.Price.{potential, lowers, price-reached, price-listing}
use Rattle.wish.specs.Listing.{Admitted, changes, listing, all_reachable, list_number, restore, restore_number, size}
use Rattle.wish.proofs.Laws.Listing.Beyond.{wish_beyond}
use Rattle.wish.proofs.Laws.Listing.Counted.{lines_differing}
use Rattle.wish.proofs.Laws.Listing.Differing.{made-target, wish_differ, wish_finds}
use Rattle.wish.specs.Listing.Numbers.{list-fits, list-long, list-unreachable, number-list}
use Rattle.wish.proofs.Laws.Listing.Reach.{all_sayable}
use Rattle.wish.specs.Listing.Sizing.{size-beyond, size-refused, size_told_lem, size-within}
use Rattle.wish.specs.Listing.Telling.{listed_told, refused-told}
use Rattle.restore.specs.Demand.Pair.{paired}
use Rattle.restore.specs.Demand.Played.{listing-bytes, play-listing}
use Rattle.restore.specs.Demand.{Fulfils, Shortest, Listed, SizeDemanded, within, beyond, Demanded, accepted, unreachable, no_room, DemandThree, SizeDemand, size_told, tells, Restores, restores, Sizes, sizes}
use Rattle.restore.specs.Restored.{Restored}

-- the list of a wish
unfoldable pub list : Wish → List ℕ
list w = listing w.room.table (changes w)

module _ (w : Wish) (lines : Lines w.room) (admitted : Admitted w) (reply_rooms : ℕ → ℕ) (enough : (call : ℕ) → reply_limit ≤ reply_rooms call) where
  played : (bs : List ℕ) → play w.room reply_rooms w.present bs ≡ feed (control_space w.room) fresh w.present bs
  played bs = plays w.room admitted.table reply_rooms enough w.present bs admitted.present

  target-is_right : Right w.room (target w)
  target-is_right = target_right w admitted.present admitted.wanted

  -- ---- no sequence that fulfils the wish is shorter than the list

  ends_at : (bs : List ℕ) → Fulfils w reply_rooms bs → (feed (control_space w.room) fresh w.present bs).state ≡ target w
  ends_at bs f = ap (λ p. p.state) (sym (played bs)) ∙ f.reached

  least : (bs : List ℕ) → Fulfils w reply_rooms bs → length (list w) ≤ length bs
  unfolding list
  least bs f =
      let r = w.room in
      let t = r.table in
      let kept = keeps_right r admitted.table in
      let b = bound (control_space r) (Right r) kept (potential t (target w)) (answers_lower r (Right r) (potential t (target w)) (lowers r lines (target w) target-is_right)) w.present bs admitted.present in
      let e : potential t (target w) (feed (control_space r) fresh w.present bs).state ≡ 0 = rw (ends_at bs f) (price-reached t (parameters t) (target w)) in
      omega (arith, b, e, price-listing t (wish_differ w admitted))

  -- ---- where no change is beyond reach, the list fulfils the wish

  listed : all_reachable w.room.table (changes w) ≡ true → play w.room reply_rooms w.present (list w) ≡ acknowledged (length (changes w)) (target w)
  unfolding list
  listed r =
      played (list w)
      ∙ play-listing w.room lines (changes w) w.present (all_sayable w admitted r) (wish_finds w admitted)
      ∙ ap (acknowledged (length (changes w))) (made-target w admitted)

  shortest : all_reachable w.room.table (changes w) ≡ true → Shortest w reply_rooms (list w)
  unfolding list
  shortest r =
      record {
        bytes = listing-bytes w.room lines (changes w) (all_sayable w admitted r);
        fulfils = record { served = ap (λ p. p.refused) (listed r); reached = ap (λ p. p.state) (listed r) };
        least = least;
      }

  -- ---- where one is, no byte sequence does: its value stays as it is

  none : all_reachable w.room.table (changes w) ≡ false → (bs : List ℕ) → Fulfils w reply_rooms bs → ⊥
  none r bs f =
      let b = wish_beyond w r in
      let v = get_or w.present b.number (pos 0) in
      let kept = keeps_unreachable w.room lines b.number b.parameter v b.found b.blocked in
      let stays = feed-keeps (control_space w.room) (Stays b.number v) kept fresh w.present bs fresh-few refl in
      b.differs (sym stays ∙ ap (λ vs. get_or vs b.number (pos 0)) (ends_at bs f))

  -- ---- the answer

  lists : (buffer : List ℕ) → length (list w) ≤ length buffer → all_reachable w.room.table (changes w) ≡ true
      → Listed w reply_rooms (length buffer) (record { number = 0; bytes = length (list w); lines = length (changes w); buffer = sets buffer 0 (list w) })
  lists buffer h r =
      record {
        shortest = rw (written_first buffer (list w) h) (shortest r);
        bytes = rw (written_first buffer (list w) h) refl;
        fits = h;
        acknowledged = rw (written_first buffer (list w) h) (ap (λ p. p.replies) (listed r));
        ends = rw (written_first buffer (list w) h) (ap (λ p. p.port) (listed r));
        lines = lines_differing w;
      }

  pub measured : SizeDemanded w reply_rooms (size w)
  unfolding list
  measured = go (all_reachable w.room.table (changes w)) refl
    where
      go : (r : Bool) → all_reachable w.room.table (changes w) ≡ r → SizeDemanded w reply_rooms (size w)
      go false r = rw (size-refused w 7 (size-beyond w admitted r) (λ z. omega arith)) (beyond refl (none r))
      go true r = rw (size_told_lem w (size-within w admitted r)) (within refl (list w) (shortest r) refl (lines_differing w))

  pub demanded : (buffer : List ℕ) → Demanded w reply_rooms (length buffer) (restore w buffer)
  unfolding list
  demanded buffer = go (all_reachable w.room.table (changes w)) (leb (length (list w)) (length buffer)) refl refl
    where
      number : (n : ℕ) → list_number w.room.table (length buffer) (changes w) ≡ n → restore_number w (length buffer) ≡ n
      number n e = number-list w (length buffer) admitted ∙ e

      refuses : (n : ℕ) → list_number w.room.table (length buffer) (changes w) ≡ n → (n ≡ 0 → ⊥)
          → restore w buffer ≡ record { number = n; bytes = 0; lines = 0; buffer = buffer }
      refuses n e h = refused-told w buffer n (number n e) h

      go : (r n : Bool) → all_reachable w.room.table (changes w) ≡ r → leb (length (list w)) (length buffer) ≡ n
          → Demanded w reply_rooms (length buffer) (restore w buffer)
      go false n r e = rw (refuses 7 (list-unreachable w.room.table (length buffer) (changes w) r) (λ z. omega arith)) (unreachable refl (none r))
      go true false r e =
          let h = leb-false (length (list w)) (length buffer) e in
          rw (refuses 8 (list-long w.room.table (length buffer) (changes w) r h) (λ z. omega arith)) (no_room refl (list w) (shortest r) h)
      go true true r e =
          let h = leb-true (length (list w)) (length buffer) e in
          rw (listed_told w buffer (number 0 (list-fits w.room.table (length buffer) (changes w) r h))) (accepted refl (lists buffer h r))

-- the whole of it, over the promise that the line layer keeps
pub demand_three : (w : Wish) (buffer : List ℕ) → DemandThree w (length buffer) (restore w buffer)
demand_three w buffer admitted reply_rooms enough = demanded w (promise w.room admitted.table) admitted reply_rooms enough buffer

pub size-demand : (w : Wish) → SizeDemand w (size w)
size-demand w admitted reply_rooms enough = measured w (promise w.room admitted.table) admitted reply_rooms enough

-- so the writing call's promise is kept once it tells and writes what it should, and the size call's once it tells what it should
pub told-restores : (w : Wish) (buffer : List ℕ) (r : Restored) (buffer' : List ℕ) → tells r buffer' ≡ restore w buffer → Restores w buffer r buffer'
told-restores w buffer r buffer' e = restores e (rw e (demand_three w buffer)) (rw e (paired w buffer))

pub told-sizes : (w : Wish) (r : Restored) → size_told r ≡ size w → Sizes w r
told-sizes w r e = sizes e (rw e (size-demand w))

-- ---- the parts of the promises

module _ {w : Wish} {buffer : List ℕ} {r : Restored} {buffer' : List ℕ} where
  pub told-by : Restores w buffer r buffer' → tells r buffer' ≡ restore w buffer
  told-by (restores told demand pair) = told

  pub demand_by : Restores w buffer r buffer' → DemandThree w (length buffer) (tells r buffer')
  demand_by (restores told demand pair) = demand

  -- what is told, written out
  pub parts_by : Restores w buffer r buffer' → record { number = r.number; bytes = r.bytes; lines = r.lines; buffer = buffer' } ≡ restore w buffer
  unfolding tells
  parts_by (restores told demand pair) = told

pub size-by : {w : Wish} {r : Restored} → Sizes w r → size_told r ≡ size w
size-by (sizes told demand) = told

pub measured-by : {w : Wish} {r : Restored} → Sizes w r → SizeDemand w (size_told r)
measured-by (sizes told demand) = demand
