-- Turns can be made for any bytes: whoever keeps the promise of a turn plays them to a connection, in a row where it alone is open.
use Rattle.std.specs.Prelude.{◌≡◌, Bool, true, false, List, [], ◌∷◌, ℕ, zero, suc, ◌≤◌, ◌<◌, ℤ, length, get_or, drop, set, replicate, None, Option, Some}
use Rattle.std.proofs.Math.Path.{refl, sym, ap}
use Rattle.std.proofs.Common.{◌∙◌, arith, length-drop, get_or-set_other}
use borrow.Author.Tests.{eq-eqb, le-leb, lt-ltb}
use Rattle.std.proofs.Math.Dec.{leb}
use Rattle.std.proofs.Math.ListN.{length-set, length-replicate, get_or-replicate}
use Rattle.std.proofs.Math.Seq.{get_or-set_same, take-length}
use Rattle.text.specs.Every.{every}
use Rattle.text.specs.Every.Laws.{every-nil, every_more, every-both}
use Rattle.room.specs.Table.{sound}
use Rattle.values.specs.Room.{Room}
use Rattle.syntax.specs.Shape.{line_limit}
use Rattle.serial_port.specs.Call.{step}
use Rattle.serial_port.specs.Call.Accepted as call
use Rattle.serial_port.specs.Port.{view}
use Rattle.serial_port.specs.Port.Seen.{port_seen}
use Rattle.serial_port.specs.Play.Kept.{step_keeps}
use Rattle.serial_port.specs.Play.Laws.{Right, keeps_right}
use Rattle.serial_port.specs.Refusal.{reply_limit}
use Rattle.serial_port.specs.Server.{control_space}
use Rattle.serial_port.specs.declared.port.Port.{Port}
use Rattle.connections.specs.Connections.{closed, port_at, flags, open_at}
use Rattle.connections.specs.Connections.Number.{open_flag}
use Rattle.connections.specs.Parts.{connection_count, total, counts_right, part_start, waiting_of}
use Rattle.connections.specs.Parts.Laws.{part-within}
use Rattle.connections.proofs.Laws.Round.Seeking.{waits-open, waits-closed}
use Rattle.connections.specs.Turn.{Asked, row_number, claims_few, turn_number, bytes_of, Told, turn, answer, Turns, Made}
use Rattle.connections.proofs.Laws.Turn.Exactly.{made, number_by_lem}
use Rattle.connections.proofs.Laws.Turn.First.{waiting, alone-served}
use Rattle.connections.proofs.Laws.Turn.Kept.{leaves_all, leaves_others, turn-kept}
use Rattle.connections.proofs.Laws.Turn.Laws.{told-by, turn-call, turn_number_lem}
use Rattle.connections.proofs.Laws.Turn.Played.{PlaysTo, same-answers}
use Rattle.connections.specs.declared.connection.Connection.{Connection}

-- ---- lists in which one element alone counts

every-replicate : {A : Type 0} (test : A → Bool) (k : ℕ) (x : A) → test x ≡ true → every test (replicate k x) ≡ true
every-replicate test zero x h = every-nil test
every-replicate test (suc k) x h = every_more test x (replicate k x) h (every-replicate test k x h)

every_set : {A : Type 0} (test : A → Bool) (l : List A) (i : ℕ) (x : A) → test x ≡ true → every test l ≡ true → every test (set l i x) ≡ true
every_set test [] i x h e = e
every_set test (a ∷ l) zero x h e = every_more test x l h (every-both test a l e).1
every_set test (a ∷ l) (suc i) x h e = let b = every-both test a l e in every_more test a (set l i x) b.0 (every_set test l i x h b.1)

total-none : (k : ℕ) → total (replicate k 0) ≡ 0
unfolding total
total-none zero = refl
total-none (suc k) = omega (arith, total-none k)

total-one : (k c n : ℕ) → c < k → total (set (replicate k 0) c n) ≡ n
unfolding total
total-one zero c n l = absurd (omega arith)
total-one (suc k) zero n l = omega (arith, total-none k)
total-one (suc k) (suc c) n l = omega (arith, total-one k c n (omega arith))

-- ---- what a turn is given that plays bs to connection c, from port p and values vs on

-- c alone is open
unfoldable row_of : (c : ℕ) → Port → List Connection
row_of c p = set (replicate 32 closed) c (record { is_open = true; port = p })

-- all bytes are its own
unfoldable counts_of : (c bytes : ℕ) → List ℕ
counts_of c bytes = set (replicate 32 0) c bytes

-- and 64 bytes are there for the reply
abbrev alone : (c : ℕ) → Port → List ℤ → List ℕ → Asked
alone c p vs bs = record { row = row_of c p; last = 31; counts = counts_of c (length bs); given = bs; values = vs; buffer = replicate 64 0 }

module _ (c : ℕ) (l : c < 32) (p : Port) where
  row_length : length (row_of c p) ≡ 32
  unfolding row_of
  row_length = length-set (replicate 32 closed) c (record { is_open = true; port = p }) ∙ length-replicate 32 closed

  there : get_or (row_of c p) c closed ≡ record { is_open = true; port = p }
  unfolding row_of
  there = get_or-set_same (replicate 32 closed) c (record { is_open = true; port = p }) closed (omega (arith, length-replicate 32 closed))

  port_there : port_at (row_of c p) c ≡ p
  unfolding port_at
  port_there = ap (λ (x : Connection). x.port) there

  open_there : open_at (row_of c p) c ≡ true
  open_there = open_flag (row_of c p) c ∙ ap (λ (x : Connection). x.is_open) there

  others_closed : (j : ℕ) → j < 32 → (j ≡ c → ⊥) → open_at (row_of c p) j ≡ false
  unfolding row_of
  others_closed j m h =
      open_flag (row_of c p) j
      ∙ ap (λ (x : Connection). x.is_open) (get_or-set_other (replicate 32 closed) c j (record { is_open = true; port = p }) closed h ∙ get_or-replicate 32 j closed closed m)

  few : p.len ≤ line_limit → every claims_few (row_of c p) ≡ true
  unfolding row_of claims_few
  few k =
      every_set (λ (x : Connection). leb x.port.len line_limit) (replicate 32 closed) c (record { is_open = true; port = p }) (le-leb p.len line_limit k)
      (every-replicate (λ (x : Connection). leb x.port.len line_limit) 32 closed (le-leb 0 line_limit (omega arith)))

module _ (c : ℕ) (l : c < 32) (n : ℕ) where
  zeros : length (replicate {A = ℕ} 32 0) ≡ 32
  zeros = length-replicate {A = ℕ} 32 0

  counts_length : length (counts_of c n) ≡ 32
  unfolding counts_of
  counts_length = length-set (replicate 32 0) c n ∙ zeros

  counts_total : total (counts_of c n) ≡ n
  unfolding counts_of
  counts_total = total-one 32 c n l

  count_there : get_or (counts_of c n) c 0 ≡ n
  unfolding counts_of
  count_there = get_or-set_same (replicate 32 0) c n 0 (omega (arith, zeros))

  start-there : part_start (counts_of c n) c ≡ 0
  start-there = omega (arith, part-within (counts_of c n) c (omega (arith, counts_length)), count_there, counts_total)

module _ (c : ℕ) (l : c < 32) (p : Port) (vs : List ℤ) (bs : List ℕ) where
  fits : row_number (alone c p vs bs) ≡ 0
  unfolding row_number counts_right connection_count
  fits =
      rw (
        eq-eqb (length (row_of c p)) 32 (row_length c l p),
        eq-eqb (length (counts_of c (length bs))) 32 (counts_length c l (length bs)),
        eq-eqb (total (counts_of c (length bs))) (length bs) (counts_total c l (length bs)),
      ) refl

  number-none : (r : Room) → sound r.table ≡ true → p.len ≤ line_limit → Right r vs → turn_number r (alone c p vs bs) ≡ 0
  unfolding reply_limit
  number-none r s k g = number_by_lem r (alone c p vs bs) (made fits s g (omega arith) (few c l p k))

  bytes-there : bytes_of (alone c p vs bs) c ≡ bs
  unfolding bytes_of waiting_of
  bytes-there = rw (start-there c l (length bs), count_there c l (length bs)) (take-length bs)

  waits : 0 < length bs → waiting (alone c p vs bs) c ≡ true
  unfolding open_at
  waits h = sym (waits-open (flags (row_of c p)) (counts_of c (length bs)) c (open_there c l p)) ∙ rw (count_there c l (length bs)) (lt-ltb 0 (length bs) h)

  others_wait_not : (j : ℕ) → j < 32 → (j ≡ c → ⊥) → waiting (alone c p vs bs) j ≡ false
  unfolding open_at
  others_wait_not j m h = sym (waits-closed (flags (row_of c p)) (counts_of c (length bs)) j (others_closed c l p j m h))

-- ---- the turns

-- whoever keeps the promise of a turn, by what it tells and the row that it leaves, plays any bytes: each turn consumes one or more
module _ (r : Room) (is-sound : sound r.table ≡ true) (tells : Asked → Told) (leaves : Asked → List Connection)
    (promise : (a : Asked) → Turns r a (tells a) (leaves a)) (c : ℕ) (l : c < 32) where
  -- one turn, given a byte or more
  module _ (p : Port) (vs : List ℤ) (bs : List ℕ) (some : 0 < length bs) (k : p.len ≤ line_limit) (g : Right r vs) where
    abbrev a : Asked
    a = alone c p vs bs

    abbrev q : Port
    q = port_at (leaves a) c

    number : (tells a).number ≡ 0
    number = ap (λ (t : Told). t.number) (told-by (promise a)) ∙ turn_number_lem r a ∙ number-none c l p vs bs r is-sound k g

    served : (tells a).served ≡ Some c
    served = alone-served (promise a) number c l (waits c l p vs bs some) (others_wait_not c l p vs bs)

    accepts : call.Accepted (control_space r) vs p bs a.buffer (answer (tells a) q) (tells a).values (tells a).buffer
    unfolding reply_limit
    accepts =
        call.answer-accept r vs p bs a.buffer (answer (tells a) q) (tells a).values (tells a).buffer is-sound g (omega arith) k
        (same-answers r vs vs p (port_at a.row c) bs (bytes_of a c) a.buffer (tells a).buffer (answer (tells a) q) (tells a).values
        (port_there c l p) refl (bytes-there c l p vs bs) (turn-call (promise a) c served))

    left_few : q.len ≤ line_limit
    unfolding answer
    left_few = accepts.few

    left_right : Right r (tells a).values
    left_right = rw accepts.state (step_keeps (control_space r) (Right r) (keeps_right r is-sound) (view p) vs bs g)

    less : (most : ℕ) → length bs ≤ suc most → length (drop (tells a).consumed bs) ≤ most
    unfolding answer
    less most m =
        let one : 1 ≤ (tells a).consumed = rw accepts.consumed (call.consumed_some (control_space r) (view p) vs bs some) in
        rw (length-drop (tells a).consumed bs) (omega arith)

    -- and those that follow on it
    first : (us : List Made) × PlaysTo r c us q (tells a).values (drop (tells a).consumed bs) → (us : List Made) × PlaysTo r c us p vs bs
    first rest =
        (record { asked = a; told = tells a; row = leaves a } ∷ rest.0, (promise a, number, served, port_there c l p, refl, bytes-there c l p vs bs, rest.1))

  ending : (most : ℕ) (p : Port) (vs : List ℤ) (bs : List ℕ) → length bs ≤ most → p.len ≤ line_limit → Right r vs → (us : List Made) × PlaysTo r c us p vs bs
  ending zero p vs [] m k g = ([], refl)
  ending zero p vs (b ∷ bs) m k g = absurd (omega arith)
  ending (suc most) p vs [] m k g = ([], refl)
  ending (suc most) p vs (b ∷ bs) m k g =
      let given = b ∷ bs in
      let a = alone c p vs given in
      let some : 0 < length given = omega arith in
      first p vs given some k g
      (ending most (port_at (leaves a) c) (tells a).values (drop (tells a).consumed given) (less p vs given some k g most m) (left_few p vs given some k g)
      (left_right p vs given some k g))

  pub turns_end : (p : Port) (vs : List ℤ) (bs : List ℕ) → p.len ≤ line_limit → Right r vs → (us : List Made) × PlaysTo r c us p vs bs
  turns_end p vs bs k g = ending (length bs) p vs bs (omega arith) k g

-- ---- and there are such turns

-- to whatever a turn is given there is a row that it may leave
pub turn-exists : (r : Room) (a : Asked) → (row' : List Connection) × Turns r a (turn r a) row'
turn-exists r a = go (turn r a).served refl
  where
    go : (s : Option ℕ) → (turn r a).served ≡ s → (row' : List Connection) × Turns r a (turn r a) row'
    go None e = (a.row, turn-kept r a a.row (rw e (leaves_all refl)))
    go (Some i) e =
        let v = view (port_at a.row i) in
        let q = port_seen (step (control_space r) a.values v (bytes_of a i)).port (call.step-claim (control_space r) v a.values (bytes_of a i)) in
        let c : Connection = record { is_open = true; port = q.0 } in
        (set a.row i c, turn-kept r a (set a.row i c) (rw e (leaves_others i c refl refl q.1 q.2)))

-- over a sound table and right values, there are turns that play any bytes to any connection
pub turns_exist : (r : Room) (c : ℕ) (p : Port) (vs : List ℤ) (bs : List ℕ) → sound r.table ≡ true → c < 32 → p.len ≤ line_limit → Right r vs
    → (us : List Made) × PlaysTo r c us p vs bs
turns_exist r c p vs bs s l k g = turns_end r s (turn r) (λ a. (turn-exists r a).0) (λ a. (turn-exists r a).1) c l p vs bs k g
