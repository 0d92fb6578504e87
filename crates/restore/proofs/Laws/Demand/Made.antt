-- Demand 3 over port calls that were made, whoever made them: all that is asked of each is the promise of `Port::take`.
use Rattle.std.specs.Prelude.{◌≡◌, List, ℕ, ◌≤◌, ◌<◌, length, take, replicate}
use Rattle.std.proofs.Common.{sym, ◌∙◌, arith}
use Rattle.std.proofs.Math.Path.{ap}
use Rattle.spelling.specs.Acknowledgement.{ack}
use Rattle.serial_port.specs.Refusal.{reply_limit}
use Rattle.serial_port.specs.Play.{play}
use Rattle.serial_port.specs.Play.Calls.{AsFresh, Made, Plays, last_port, last_values, replies}
use Rattle.serial_port.specs.Play.Calls.Laws.{Does, calls_play}
use Rattle.serial_port.specs.Play.Laws.{play-serves}
use Rattle.serial_port.specs.declared.port.Port.{Port}
use Rattle.wish.specs.Target.{Wish, target}
use Rattle.wish.specs.Listing.{Admitted, Told, restore}
use Rattle.wish.specs.Listing.Admitting.{told-admits}
use Rattle.wish.specs.Listing.Sizing.{size-admits}
use Rattle.restore.specs.Demand.{Fulfils, Listed, Demanded, accepted, unreachable, no_room, size_told, tells, Restores, Sizes}
use Rattle.restore.specs.Demand.Exactly.{exactly_seven, exactly_eight, size-exactly_seven, size-least}
use Rattle.restore.proofs.Laws.Demand.Laws.{told-by, demand_by, measured-by}
use Rattle.restore.proofs.Laws.Demand.Sized.{size-numbered}
use Rattle.restore.specs.Restored.{Restored}

-- the calls cs play bs, as `Plays` says, on the wish's table, from the fresh port p and the present values on
pub record Playing (w : Wish) (p : Port) (cs : List Made) (bs : List ℕ) : Type 0 where
  pub starts : AsFresh p
  pub plays : Plays w.room cs p w.present bs

-- they end with the target values
abbrev pub Reaches : Wish → List Made → Type 0
Reaches w cs = last_values cs w.present ≡ target w

-- they end so, with an ACK for each of so many lines and no other reply, and leave a fresh port
pub record Fulfilling (w : Wish) (lines : ℕ) (p : Port) (cs : List Made) : Type 0 where
  pub reaches : Reaches w cs
  pub acknowledged : replies cs ≡ replicate lines ack
  pub ends : AsFresh (last_port cs p)

-- what the answer r of a writing call, which was lent a list buffer of `room` bytes and left `buffer` in it, says of all such calls
pub record OverCalls (w : Wish) (room : ℕ) (r : Restored) (buffer : List ℕ) : Type 0 where
  -- accepted: calls that play the list told fulfil the wish, with as many ACKs as lines told
  pub listed : r.number ≡ 0 → (p : Port) (cs : List Made) → Playing w p cs (take r.bytes buffer) → Fulfilling w r.lines p cs
  -- and calls that reach the target, whatever they play, are given as many bytes as told or more
  pub least : r.number ≡ 0 → (p : Port) (cs : List Made) (bs : List ℕ) → Playing w p cs bs → Reaches w cs → r.bytes ≤ length bs
  -- refused with 7: no calls reach the target
  pub unreachable : r.number ≡ 7 → (p : Port) (cs : List Made) (bs : List ℕ) → Playing w p cs bs → Reaches w cs → ⊥
  -- refused with 8: calls that do are given more bytes than the list buffer has
  pub no_room : r.number ≡ 8 → (p : Port) (cs : List Made) (bs : List ℕ) → Playing w p cs bs → Reaches w cs → room < length bs

-- what the answer r of a size call says of them
pub record SizeOverCalls (w : Wish) (r : Restored) : Type 0 where
  -- accepted: calls that reach the target, whatever they play, are given as many bytes as told or more
  pub least : r.number ≡ 0 → (p : Port) (cs : List Made) (bs : List ℕ) → Playing w p cs bs → Reaches w cs → r.bytes ≤ length bs
  -- refused with 7: no calls reach the target
  pub unreachable : r.number ≡ 7 → (p : Port) (cs : List Made) (bs : List ℕ) → Playing w p cs bs → Reaches w cs → ⊥

-- ---- calls that are made, as a play

-- 64 bytes for each reply
abbrev rooms : ℕ → ℕ
rooms call = reply_limit

enough : (call : ℕ) → reply_limit ≤ rooms call
enough call = omega arith

module _ (w : Wish) (admitted : Admitted w) (p : Port) (cs : List Made) (bs : List ℕ) (h : Playing w p cs bs) where
  does : Does cs p w.present (play w.room rooms w.present bs)
  does = calls_play w.room admitted.table rooms enough cs p w.present bs h.starts admitted.present h.plays

  fulfils : Reaches w cs → Fulfils w rooms bs
  fulfils e =
      record {
        served = play-serves w.room admitted.table rooms enough w.present bs admitted.present;
        reached = sym does.values ∙ e;
      }

accepted_listed : (w : Wish) (room : ℕ) (a : Told) → Demanded w rooms room a → a.number ≡ 0 → Listed w rooms room a
accepted_listed w room a (accepted e l) z = l
accepted_listed w room a (unreachable e none) z = absurd (omega arith)
accepted_listed w room a (no_room e list s n) z = absurd (omega arith)

-- ---- the promises of the two restore calls hold over them

module _ (w : Wish) (buffer : List ℕ) (r : Restored) (buffer' : List ℕ) (promise : Restores w buffer r buffer') where
  -- demand 3 speaks of a call that is refused with none of 1 to 6
  admits : (1 ≤ r.number → r.number ≤ 6 → ⊥) → Admitted w
  unfolding tells
  admits none =
      let told : r.number ≡ (restore w buffer).number = ap (λ a. a.number) (told-by promise) in
      told-admits w buffer (λ e. none (omega arith) (omega arith)) (λ e. none (omega arith) (omega arith))
      (λ e. none (omega arith) (omega arith)) (λ e. none (omega arith) (omega arith))

  demanded : Admitted w → Demanded w rooms (length buffer) (tells r buffer')
  demanded a = demand_by promise a rooms enough

  pub over_calls : OverCalls w (length buffer) r buffer'
  unfolding tells
  over_calls =
      record {
        listed = λ z p cs h.
            let a = admits (λ i j. omega arith) in
            let l = accepted_listed w (length buffer) (tells r buffer') (demanded a) z in
            let d = does w a p cs (take r.bytes buffer') h in
            record {
              reaches = d.values ∙ l.shortest.fulfils.reached;
              acknowledged = d.replies ∙ l.acknowledged;
              ends = record { seen = d.port ∙ l.ends; few = d.few };
            };
        least = λ z p cs bs h e.
            let a = admits (λ i j. omega arith) in
            let l = accepted_listed w (length buffer) (tells r buffer') (demanded a) z in
            omega (arith, l.bytes, l.shortest.least bs (fulfils w a p cs bs h e));
        unreachable = λ z p cs bs h e.
            let a = admits (λ i j. omega arith) in
            (exactly_seven w rooms (length buffer) (tells r buffer') (demanded a)).0 z bs (fulfils w a p cs bs h e);
        no_room = λ z p cs bs h e.
            let a = admits (λ i j. omega arith) in
            let l = (exactly_eight w rooms (length buffer) (tells r buffer') (demanded a)).0 z in
            omega (arith, l.long, l.shortest.least bs (fulfils w a p cs bs h e));
      }

pub size-over_calls : (w : Wish) (r : Restored) → Sizes w r → SizeOverCalls w r
unfolding size_told
size-over_calls w r promise =
    record {
      least = λ z p cs bs h e.
          let a = size-admits w (λ i j. omega (arith, size-numbered promise)) in
          size-least w rooms (size_told r) (measured-by promise a rooms enough) z bs (fulfils w a p cs bs h e);
      unreachable = λ z p cs bs h e.
          let a = size-admits w (λ i j. omega (arith, size-numbered promise)) in
          (size-exactly_seven w rooms (size_told r) (measured-by promise a rooms enough)).0 z bs (fulfils w a p cs bs h e);
    }
