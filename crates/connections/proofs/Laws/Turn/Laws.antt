-- What a turn does: whom it serves, that it is a port call, and that the others are as they were.
use Rattle.std.specs.Prelude.{◌≡◌, refl, true, false, ◌&&◌, List, [], ◌∷◌, ℕ, zero, suc, ◌+◌, ◌≤◌, ◌<◌, eqb, leb, ltb, ℤ, length, get_or, set, None, Option, Some}
use Rattle.std.proofs.Common.{sym, ◌∙◌, ap, subst, arith, eqb-true, leb-true, ltb-true, get_or-set_same, get_or-set_other}
use Rattle.text.specs.Every.{every}
use Rattle.text.specs.Every.Laws.{both, every-at}
use Rattle.text.specs.Written.Laws.{past_by}
use Rattle.room.specs.Refusal.Laws.{all_passed, passed_test}
use Rattle.room.specs.Table.{sound, table_number}
use Rattle.room.specs.Table.Number.{passed_table}
use Rattle.values.specs.Room.{Room}
use Rattle.values.specs.Values.{values_sound, values_number}
use Rattle.values.specs.Values.Number.{passed_values}
use Rattle.syntax.specs.Shape.{line_limit}
use Rattle.serial_port.specs.Call.{Answers, step}
use Rattle.serial_port.specs.Call.Accepted.{answer-accept, step_fits}
use Rattle.serial_port.specs.Call.Telling.{call_number_lem}
use Rattle.serial_port.specs.Refusal.{reply_limit, reply_number, call_number}
use Rattle.serial_port.specs.Refusal.Laws as refusal
use Rattle.serial_port.specs.Port.{view}
use Rattle.serial_port.specs.Refusal.Number.{passed_reply}
use Rattle.serial_port.specs.Server.{control_space}
use Rattle.connections.specs.Connections.{closed, port_at, flags, open_at}
use Rattle.connections.specs.Parts.{connection_count, total, counts_right}
use Rattle.connections.specs.Round.{waits_by}
use Rattle.connections.proofs.Laws.Round.Laws.{Chosen, one, next-chosen}
use Rattle.connections.specs.Turn.{Asked, row_number, claims_few, ports_number, turn_number, chosen, bytes_of, Told, idle, busy, tell, turn, answer, PutBack, put_back, Left, Turns, turns, tells}
use Rattle.connections.specs.declared.connection.Connection.{Connection}
use Rattle.connections.specs.declared.turning.Turned.{Turned}

-- what a turn that is not refused was given
pub record Accepted (r : Room) (a : Asked) : Type 0 where
  pub row : length a.row ≡ 32
  pub counts : length a.counts ≡ 32
  pub divided : total a.counts ≡ length a.given
  pub last : a.last < 32
  pub table : sound r.table ≡ true
  pub values : values_sound r a.values ≡ true
  pub room : reply_limit ≤ length a.buffer
  pub few : (i : ℕ) → i < 32 → (port_at a.row i).len ≤ line_limit

few_at : (row : List Connection) → length row ≡ 32 → ports_number row ≡ 0 → (i : ℕ) → i < 32 → (port_at row i).len ≤ line_limit
unfolding ports_number claims_few port_at
few_at row e h i l =
    leb-true (get_or row i closed).port.len line_limit
    (every-at (λ (c : Connection). leb c.port.len line_limit) row closed (passed_test (every (λ (c : Connection). leb c.port.len line_limit) row) 3 h) i (omega arith))

pub counts_accepted : (counts : List ℕ) (bytes : ℕ) → counts_right counts bytes ≡ true → (length counts ≡ 32) × (total counts ≡ bytes)
unfolding counts_right connection_count
counts_accepted counts bytes h =
    let b = both (eqb (length counts) 32) (eqb (total counts) bytes) h in
    (eqb-true (length counts) 32 b.0, eqb-true (total counts) bytes b.1)

-- what 10 asks
pub row_accepted : (a : Asked) → row_number a ≡ 0 → (length a.row ≡ 32) × (length a.counts ≡ 32) × (total a.counts ≡ length a.given) × (a.last < 32)
unfolding row_number connection_count
row_accepted a h =
    let divides = counts_right a.counts (length a.given) in
    let b = both (eqb (length a.row) 32 && divides) (leb a.last 31) (passed_test (eqb (length a.row) 32 && divides && leb a.last 31) 9 h) in
    let c = both (eqb (length a.row) 32) divides b.0 in
    let d = counts_accepted a.counts (length a.given) c.1 in
    let k : a.last ≤ 31 = leb-true a.last 31 b.1 in
    (eqb-true (length a.row) 32 c.0, d.0, d.1, omega arith)

-- all of it is tested, also where nobody waits
pub accepted : (r : Room) (a : Asked) → turn_number r a ≡ 0 → Accepted r a
unfolding turn_number
accepted r a h =
    let ports = ports_number a.row ∷ [] in
    let reply = reply_number reply_limit (length a.buffer) ∷ ports in
    let values = values_number r a.values ∷ reply in
    let p = all_passed (row_number a) (table_number r.table ∷ values) h in
    let q = all_passed (table_number r.table) values p.1 in
    let s = all_passed (values_number r a.values) reply q.1 in
    let t = all_passed (reply_number reply_limit (length a.buffer)) ports s.1 in
    let u = all_passed (ports_number a.row) [] t.1 in
    let m = row_accepted a p.0 in
    record {
      row = m.0;
      counts = m.1;
      divided = m.2;
      last = m.3;
      table = passed_table r.table q.0;
      values = passed_values r a.values s.0;
      room = passed_reply reply_limit (length a.buffer) t.0;
      few = few_at a.row m.0 u.0;
    }

-- ---- whose turn it is

-- in an accepted turn the one that is chosen waits, and none that waits stands before it in the round
pub chosen-first : (r : Room) (a : Asked) → turn_number r a ≡ 0 → Chosen a.last (waits_by (flags a.row) a.counts) (chosen a)
unfolding chosen
chosen-first r a e = next-chosen a.last (waits_by (flags a.row) a.counts) (accepted r a e).last

-- a connection that waits is open, and bytes are counted for it
pub waits-both : (row : List Connection) (counts : List ℕ) (i : ℕ) → waits_by (flags row) counts i ≡ true → (open_at row i ≡ true) × (0 < get_or counts i 0)
unfolding waits_by open_at
waits-both row counts i h = let b = both (get_or (flags row) i false) (ltb 0 (get_or counts i 0)) h in (b.0, ltb-true 0 (get_or counts i 0) b.1)

-- ---- the number that is told

pub served-number : (r : Room) (a : Asked) (i : ℕ) → turn_number r a ≡ 0 → i < 32 → call_number r a.values (length a.buffer) (port_at a.row i).len ≡ 0
served-number r a i e l =
    let k = accepted r a e in
    refusal.accepted r a.values (length a.buffer) (port_at a.row i).len k.table k.values k.room (k.few i l)

tell-number : (r : Room) (a : Asked) (n : ℕ) → turn_number r a ≡ n → (tell r a n (chosen a)).number ≡ n
unfolding tell idle busy
tell-number r a zero e = go (chosen a) (chosen-first r a e)
  where
    go : (s : Option ℕ) → Chosen a.last (waits_by (flags a.row) a.counts) s → (tell r a 0 s).number ≡ 0
    go None c = refl
    go (Some i) (one j l w h) = call_number_lem r a.values (port_at a.row i) (bytes_of a i) a.buffer ∙ served-number r a i e l
tell-number r a (suc n) e = refl

-- what a turn tells is the number of its own tests: the port call in it is never refused
pub turn_number_lem : (r : Room) (a : Asked) → (turn r a).number ≡ turn_number r a
unfolding turn
turn_number_lem r a = tell-number r a (turn_number r a) refl

-- ---- the promise, by the one that was served

pub told-by : {r : Room} {a : Asked} {t : Told} {row' : List Connection} → Turns r a t row' → t ≡ turn r a
told-by (turns told left) = told

pub left_by : {r : Room} {a : Asked} {t : Told} {row' : List Connection} → Turns r a t row' → Left r a (turn_number r a) (chosen a) t row'
left_by (turns told left) = left

pub accepts : {r : Room} {a : Asked} {t : Told} {row' : List Connection} → Turns r a t row' → t.number ≡ 0 → turn_number r a ≡ 0
accepts {r} {a} p e = sym (turn_number_lem r a) ∙ sym (ap (λ (x : Told). x.number) (told-by p)) ∙ e

-- who is told as served
pub data ServedAs (r : Room) (a : Asked) (t : Told) (row' : List Connection) : Option ℕ → Type 0 where
  nobody_served : row' ≡ a.row → t ≡ idle (turn_number r a) a → ServedAs r a t row' None
  one_served : (i : ℕ) → turn_number r a ≡ 0 → chosen a ≡ Some i → i < 32 → PutBack r a i t row' → ServedAs r a t row' (Some i)

by_served : (r : Room) (a : Asked) (t : Told) (row' : List Connection) (n : ℕ) → turn_number r a ≡ n → t ≡ tell r a n (chosen a) → Left r a n (chosen a) t row' → ServedAs r a t row' t.served
unfolding tell idle busy
by_served r a t row' zero e h left = go (chosen a) refl (chosen-first r a e) h left
  where
    go : (s : Option ℕ) → chosen a ≡ s → Chosen a.last (waits_by (flags a.row) a.counts) s → t ≡ tell r a 0 s → Left r a 0 s t row' → ServedAs r a t row' t.served
    go None q c h left =
        let w : t.served ≡ None = ap (λ (x : Told). x.served) h in
        subst (ServedAs r a t row') (sym w) (nobody_served left (rw e h))
    go (Some i) q (one j l w c) h left =
        let w : t.served ≡ Some i = ap (λ (x : Told). x.served) h in
        subst (ServedAs r a t row') (sym w) (one_served i e q l left)
by_served r a t row' (suc n) e h left =
    let w : t.served ≡ None = ap (λ (x : Told). x.served) h in
    subst (ServedAs r a t row') (sym w) (nobody_served left (rw e h))

pub served-as : {r : Room} {a : Asked} {t : Told} {row' : List Connection} → Turns r a t row' → ServedAs r a t row' t.served
unfolding turn
served-as {r} {a} {t} {row'} p = by_served r a t row' (turn_number r a) refl (told-by p) (left_by p)

-- the other 31 connections are as they were, whoever is served
pub others_kept : {r : Room} {a : Asked} {t : Told} {row' : List Connection} → Turns r a t row' → (j : ℕ) → (t.served ≡ Some j → ⊥) → get_or row' j closed ≡ get_or a.row j closed
others_kept {r} {a} {t} {row'} p j h = go t.served refl (served-as p)
  where
    go : (s : Option ℕ) → t.served ≡ s → ServedAs r a t row' s → get_or row' j closed ≡ get_or a.row j closed
    go None e (nobody_served same told) = rw same refl
    go (Some i) e (one_served k z q l (put_back c placed stays answers)) =
        rw placed (get_or-set_other a.row i j c closed (λ w. h (e ∙ ap Some (sym w))))

port_put : (r : Room) (a : Asked) (row' : List Connection) (k : ℕ) → k < 32 → turn_number r a ≡ 0 → (c : Connection) → row' ≡ set a.row k c → port_at row' k ≡ c.port
unfolding port_at
port_put r a row' k l z c placed =
    let n : length a.row ≡ 32 = (accepted r a z).row in
    rw placed (ap (λ (x : Connection). x.port) (get_or-set_same a.row k c closed (omega arith)))

-- a turn that serves connection i is a port call on its bytes, with its port as it was before and as it is afterwards
pub turn-call : {r : Room} {a : Asked} {t : Told} {row' : List Connection} → Turns r a t row' → (i : ℕ) → t.served ≡ Some i
    → Answers r a.values (port_at a.row i) (bytes_of a i) a.buffer (answer t (port_at row' i)) t.values t.buffer
turn-call {r} {a} {t} {row'} p i e = go t.served e (served-as p)
  where
    go : (s : Option ℕ) → s ≡ Some i → ServedAs r a t row' s
        → Answers r a.values (port_at a.row i) (bytes_of a i) a.buffer (answer t (port_at row' i)) t.values t.buffer
    go None q (nobody_served same told) = absurd (let z : ◌≡◌ {A = ℕ} 0 1 = cc in omega arith)
    go (Some k) q (one_served j z w l (put_back c placed stays answers)) =
        let same : k ≡ i = cc in
        rw (← same, port_put r a row' k l z c placed) answers

-- with nobody waiting, or refused, it changes nothing
pub nobody_changes : {r : Room} {a : Asked} {t : Told} {row' : List Connection} → Turns r a t row' → t.served ≡ None
    → (row' ≡ a.row) × (t ≡ idle (turn_number r a) a)
nobody_changes {r} {a} {t} {row'} p e = go t.served e (served-as p)
  where
    go : (s : Option ℕ) → s ≡ None → ServedAs r a t row' s → (row' ≡ a.row) × (t ≡ idle (turn_number r a) a)
    go None q (nobody_served same told) = (same, told)
    go (Some k) q (one_served j z w l b) = absurd (let z : ◌≡◌ {A = ℕ} 0 1 = cc in omega arith)

-- the reply lies within the reply buffer
reply_within : {r : Room} {a : Asked} {t : Told} {row' : List Connection} → Turns r a t row' → t.sent ≤ length a.buffer
unfolding idle answer reply_limit
reply_within {r} {a} {t} {row'} p = go t.served (served-as p)
  where
    go : (s : Option ℕ) → ServedAs r a t row' s → t.sent ≤ length a.buffer
    go None (nobody_served same told) = let z : t.sent ≡ 0 = ap (λ (x : Told). x.sent) told in omega (arith, z)
    go (Some i) (one_served j z q l (put_back c placed stays answers)) =
        let k = accepted r a z in
        let b = answer-accept r a.values (port_at a.row i) (bytes_of a i) a.buffer (answer t c.port) t.values t.buffer k.table k.values k.room (k.few i l) answers in
        let n : t.sent ≡ 0 + length (step (control_space r) a.values (view (port_at a.row i)) (bytes_of a i)).reply = past_by b.reply in
        omega (arith, n, step_fits r a.values (view (port_at a.row i)) (bytes_of a i) k.table k.values, k.room)

pub sent_within : {r : Room} {a : Asked} {row' : List Connection} (t : Turned) (vs' : List ℤ) (buffer' : List ℕ) → Turns r a (tells t vs' buffer') row' → t.sent ≤ length a.buffer
unfolding tells
sent_within t vs' buffer' p = reply_within p
