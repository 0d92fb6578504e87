-- How a turn for one connection keeps its promise.
use Rattle.std.specs.Prelude.{◌≡◌, refl, Bool, true, ◌&&◌, List, ℕ, ◌+◌, ◌-◌, ◌^◌, ◌≤◌, ◌<◌, leb, ℤ, length, get_or, take, drop, None, Option, Some}
use Rattle.std.proofs.Common.{sym, ◌∙◌, arith, leb-true}
use Rattle.text.specs.Every.Laws.{both}
use Rattle.room.specs.Refusal.{refusal_number}
use Rattle.room.specs.Refusal.Laws.{all_passed, passed_test, refusal-some}
use Rattle.room.specs.Table.{sound}
use Rattle.room.specs.Table.Number.{passed_table}
use Rattle.room.specs.declared.refusal.Refusal.{Refusal}
use Rattle.values.specs.Room.{Room, room_of}
use Rattle.values.specs.Values.{values_sound}
use Rattle.values.specs.Values.Number.{passed_values}
use Rattle.serial_port.specs.Refusal.{reply_limit}
use Rattle.serial_port.specs.Refusal.Number.{passed_reply}
use Rattle.connections.specs.Parts.{total, counts_right, part_start, waiting_of}
use Rattle.connections.specs.Parts.Laws.{part-within}
use Rattle.connections.specs.Round.{waits_by, next}
use Rattle.connections.proofs.Laws.Round.Laws.{Chosen, nobody, one, next-chosen}
use Rattle.connections.specs.Serving.{Serves}
use Rattle.connections.proofs.Laws.Turn.Laws.{counts_accepted}
use Rattle.connections.specs.Turn.Number.{number_by, fit_number}
use Rattle.connections.specs.Turn.Single.{still, ServesNext, serves_next, ServesWaiting, nobody_waits, one_waits, TurnsOne, refused, accepted}
use Rattle.connections.specs.declared.connection.Connection.{Connection}
use Rattle.connections.specs.declared.serving.ServedOne.{ServedOne}
use Rattle.connections.specs.declared.survey.Survey.{Survey}
use Rattle.connections.specs.declared.turning.Turned.{Turned}
use Rattle.connections.specs.declared.turning.TurnedOne.{TurnedOne}

-- ---- the connection's part of the bytes

pub part-fits : (counts given : List ℕ) (i start : ℕ) → i < length counts → total counts ≡ length given → length given < 2 ^ 64 → start ≡ part_start counts i → start + get_or counts i 0 < 2 ^ 64
part-fits counts given i start l e h q = omega (arith, part-within counts i l, e, h, q)

pub part-ends : (counts given : List ℕ) (i start : ℕ) → i < length counts → total counts ≡ length given → start ≡ part_start counts i → start + get_or counts i 0 ≤ length given
part-ends counts given i start l e q = omega (arith, part-within counts i l, e, q)

pub total-fits : (counts given : List ℕ) → total counts ≡ length given → length given < 2 ^ 64 → total counts < 2 ^ 64
total-fits counts given e h = omega arith

own-part : (counts given : List ℕ) (i start : ℕ) → start ≡ part_start counts i → take (start + get_or counts i 0 - start) (drop start given) ≡ waiting_of counts given i
unfolding waiting_of
own-part counts given i start e = let q : start + get_or counts i 0 - start ≡ get_or counts i 0 = omega arith in rw (q, e) refl

pub next-served : (r : Room) (i start : ℕ) (counts given : List ℕ) (vs : List ℤ) (buffer : List ℕ) (c : Connection) (d : ServedOne) (vs' : List ℤ) (buffer' : List ℕ)
    → start ≡ part_start counts i → Serves r c (take (start + get_or counts i 0 - start) (drop start given)) vs buffer d vs' buffer'
    → ServesNext r i counts given vs buffer c
    (record { connection = d.connection; turned = record { served = Some i; consumed = d.answer.consumed; sent = d.answer.sent; fault = d.answer.fault; number = d.answer.number } }) vs' buffer'
next-served r i start counts given vs buffer c d vs' buffer' e h = serves_next d.answer refl (rw (own-part counts given i start e) at h)

-- ---- what the number 0 tells

fit_passed : (r : Room) (few : Bool) (last : ℕ) (counts : List ℕ) (bytes : ℕ) (vs : List ℤ) (room : ℕ) → number_by r few last counts bytes vs room ≡ 0
    → (length counts ≡ 32) × (total counts ≡ bytes) × (last < 32)
unfolding number_by fit_number
fit_passed r few last counts bytes vs room h =
    let p = all_passed _ _ h in
    let b = both (counts_right counts bytes) (leb last 31) (passed_test (counts_right counts bytes && leb last 31) 9 p.0) in
    let d = counts_accepted counts bytes b.0 in
    let k : last ≤ 31 = leb-true last 31 b.1 in
    (d.0, d.1, omega arith)

lent_passed : (r : Room) (few : Bool) (last : ℕ) (counts : List ℕ) (bytes : ℕ) (vs : List ℤ) (room : ℕ) → number_by r few last counts bytes vs room ≡ 0
    → (sound r.table ≡ true) × (values_sound r vs ≡ true) × (64 ≤ room)
unfolding number_by reply_limit
lent_passed r few last counts bytes vs room h =
    let t = all_passed _ _ (all_passed _ _ h).1 in
    let v = all_passed _ _ t.1 in
    let b = all_passed _ _ v.1 in
    (passed_table r.table t.0, passed_values r vs v.0, passed_reply 64 room b.0)

module _ (r : Room) (few : Bool) (last : ℕ) (counts : List ℕ) (bytes : ℕ) (vs : List ℤ) (room n : ℕ) (e : n ≡ number_by r few last counts bytes vs room) (z : n ≡ 0) where
  pub none_length : length counts ≡ 32
  none_length = (fit_passed r few last counts bytes vs room (sym e ∙ z)).0

  pub none_total : total counts ≡ bytes
  none_total = (fit_passed r few last counts bytes vs room (sym e ∙ z)).1

  pub none_last : last ≤ 31
  none_last = let h = (fit_passed r few last counts bytes vs room (sym e ∙ z)).2 in omega arith

  pub none_values : values_sound r vs ≡ true
  none_values = (lent_passed r few last counts bytes vs room (sym e ∙ z)).1

  pub none_reply : 64 ≤ room
  none_reply = (lent_passed r few last counts bytes vs room (sym e ∙ z)).2

-- the table's own, of a room of lent lists
pub none_table : (t : List ℕ) (few : Bool) (last : ℕ) (counts : List ℕ) (bytes : ℕ) (vs : List ℤ) (room n : ℕ) → n ≡ number_by (room_of t) few last counts bytes vs room → n ≡ 0
    → sound t ≡ true
none_table t few last counts bytes vs room n e z = (lent_passed (room_of t) few last counts bytes vs room (sym e ∙ z)).0

-- ---- the three ways

-- whoever is next has a count
pub next-within : (last : ℕ) (counts : List ℕ) (flags : List Bool) (s : Option ℕ) (i : ℕ) → last ≤ 31 → length counts ≡ 32 → s ≡ next last (waits_by flags counts) → s ≡ Some i → i < length counts
next-within last counts flags s i b n q h = go (next last (waits_by flags counts)) (sym q ∙ h) (next-chosen last (waits_by flags counts) (omega arith))
  where
    go : (t : Option ℕ) → t ≡ Some i → Chosen last (waits_by flags counts) t → i < length counts
    go None k (nobody m) = absurd (let y : ◌≡◌ {A = ℕ} 0 1 = cc in omega arith)
    go (Some j) k (one j' l m o) = let same : j ≡ i = cc in omega (arith, n, l, same)

module _ (r : Room) (flags : List Bool) (last : ℕ) (counts given : List ℕ) (vs : List ℤ) (buffer : List ℕ) (c : Connection) (t : Option ℕ) (q : t ≡ next last (waits_by flags counts)) where
  pub nobody_turns : (u : Turned) → t ≡ None → u ≡ still 0 → ServesWaiting r flags last counts given vs buffer c (record { connection = c; turned = u }) vs buffer
  nobody_turns u h k = nobody_waits (sym q ∙ h) (rw k refl) refl refl

  pub next-turns : (i : ℕ) (d : TurnedOne) (vs' : List ℤ) (buffer' : List ℕ) → t ≡ Some i → ServesNext r i counts given vs buffer c d vs' buffer'
      → ServesWaiting r flags last counts given vs buffer c d vs' buffer'
  next-turns i d vs' buffer' h k = one_waits i (sym q ∙ h) k

pub ruleset waiting = (part-fits, part-ends, total-fits, next-served, next-within, nobody_turns, next-turns)

module _ (r : Room) (s : Survey) (last : ℕ) (counts given : List ℕ) (vs : List ℤ) (buffer : List ℕ) (c : Connection) (n : ℕ) (e : n ≡ number_by r s.few last counts (length given) vs (length buffer)) where
  pub turn-refused : (u : Turned) → (n ≡ 0 → ⊥) → u ≡ still n → TurnsOne r s last counts given vs buffer c (record { connection = c; turned = u }) vs buffer
  turn-refused u h q = refused n (sym e) h (rw q refl) refl refl

  pub turn-accepted : (flags : List Bool) (d : TurnedOne) (vs' : List ℤ) (buffer' : List ℕ) → n ≡ 0 → flags ≡ s.flags → ServesWaiting r flags last counts given vs buffer c d vs' buffer'
      → TurnsOne r s last counts given vs buffer c d vs' buffer'
  turn-accepted flags d vs' buffer' z f k = accepted (sym e ∙ z) (rw f at k)

  pub turn-served : (d : TurnedOne) (vs' : List ℤ) (buffer' : List ℕ) → n ≡ 0 → ServesWaiting r s.flags last counts given vs buffer c d vs' buffer'
      → TurnsOne r s last counts given vs buffer c d vs' buffer'
  turn-served d vs' buffer' z k = accepted (sym e ∙ z) k

-- refused, by the refusal of which the number is told
pub turn-refused_by : (r : Room) (s : Survey) (last : ℕ) (counts given : List ℕ) (vs : List ℤ) (buffer : List ℕ) (c : Connection) (x : Refusal) (n : ℕ) (u : Turned)
    → refusal_number x ≡ number_by r s.few last counts (length given) vs (length buffer) → n ≡ refusal_number x → u ≡ still n
    → TurnsOne r s last counts given vs buffer c (record { connection = c; turned = u }) vs buffer
turn-refused_by r s last counts given vs buffer c x n u e b q = turn-refused r s last counts given vs buffer c n (b ∙ e) u (λ z. refusal-some x (sym b ∙ z)) q

pub ruleset turning = (none_length, none_total, none_last, none_table, none_values, none_reply, turn-refused_by, turn-accepted, turn-served)
