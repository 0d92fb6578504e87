-- Demand 3 over turns that serve one connection alone: their port calls are calls that were made.
use Rattle.std.specs.Prelude.{◌≡◌, List, map, ℕ, ◌≤◌, ◌<◌, length, take}
use Rattle.serial_port.specs.Play.Calls.{AsFresh}
use Rattle.serial_port.specs.declared.port.Port.{Port}
use Rattle.connections.specs.Turn.{Made}
use Rattle.connections.proofs.Laws.Turn.Played.{PlaysTo, call_of, turns_play}
use Rattle.wish.specs.Target.{Wish}
use Rattle.restore.specs.Demand.{Restores, Sizes}
use Rattle.restore.proofs.Laws.Demand.Made.{Playing, Reaches, Fulfilling, over_calls, size-over_calls}
use Rattle.restore.specs.Restored.{Restored}

-- the turns us play bs to connection c, as `PlaysTo` says, on the wish's table, from the fresh port p of that connection and the present values on
pub record PlayingTo (w : Wish) (c : ℕ) (p : Port) (us : List Made) (bs : List ℕ) : Type 0 where
  pub starts : AsFresh p
  pub plays : PlaysTo w.room c us p w.present bs

-- what the answer r of a restore call, which was lent a list buffer of `room` bytes and left `buffer` in it, says of all such turns: as of calls that were made
pub record OverTurns (w : Wish) (room : ℕ) (r : Restored) (buffer : List ℕ) : Type 0 where
  pub listed : r.number ≡ 0 → (c : ℕ) (p : Port) (us : List Made) → PlayingTo w c p us (take r.bytes buffer) → Fulfilling w r.lines p (map (call_of c) us)
  pub least : r.number ≡ 0 → (c : ℕ) (p : Port) (us : List Made) (bs : List ℕ) → PlayingTo w c p us bs → Reaches w (map (call_of c) us) → r.bytes ≤ length bs
  pub unreachable : r.number ≡ 7 → (c : ℕ) (p : Port) (us : List Made) (bs : List ℕ) → PlayingTo w c p us bs → Reaches w (map (call_of c) us) → ⊥
  pub no_room : r.number ≡ 8 → (c : ℕ) (p : Port) (us : List Made) (bs : List ℕ) → PlayingTo w c p us bs → Reaches w (map (call_of c) us) → room < length bs

as_calls : (w : Wish) (c : ℕ) (p : Port) (us : List Made) (bs : List ℕ) → PlayingTo w c p us bs → Playing w p (map (call_of c) us) bs
as_calls w c p us bs h = record { starts = h.starts; plays = turns_play w.room c us p w.present bs h.plays }

pub over_turns : (w : Wish) (buffer : List ℕ) (r : Restored) (buffer' : List ℕ) → Restores w buffer r buffer' → OverTurns w (length buffer) r buffer'
over_turns w buffer r buffer' promise =
    let o = over_calls w buffer r buffer' promise in
    record {
      listed = λ z c p us h. o.listed z p (map (call_of c) us) (as_calls w c p us (take r.bytes buffer') h);
      least = λ z c p us bs h e. o.least z p (map (call_of c) us) bs (as_calls w c p us bs h) e;
      unreachable = λ z c p us bs h e. o.unreachable z p (map (call_of c) us) bs (as_calls w c p us bs h) e;
      no_room = λ z c p us bs h e. o.no_room z p (map (call_of c) us) bs (as_calls w c p us bs h) e;
    }

-- what the answer r of a size call says of them
pub record SizeOverTurns (w : Wish) (r : Restored) : Type 0 where
  pub least : r.number ≡ 0 → (c : ℕ) (p : Port) (us : List Made) (bs : List ℕ) → PlayingTo w c p us bs → Reaches w (map (call_of c) us) → r.bytes ≤ length bs
  pub unreachable : r.number ≡ 7 → (c : ℕ) (p : Port) (us : List Made) (bs : List ℕ) → PlayingTo w c p us bs → Reaches w (map (call_of c) us) → ⊥

pub size-over_turns : (w : Wish) (r : Restored) → Sizes w r → SizeOverTurns w r
size-over_turns w r promise =
    let o = size-over_calls w r promise in
    record {
      least = λ z c p us bs h e. o.least z p (map (call_of c) us) bs (as_calls w c p us bs h) e;
      unreachable = λ z c p us bs h e. o.unreachable z p (map (call_of c) us) bs (as_calls w c p us bs h) e;
    }
