-- Whom a turn serves: a connection that is open and has bytes waiting, and nobody who waits stands before it in the round. Nobody is served only where nobody waits.
use Rattle.std.specs.Prelude.{◌≡◌, refl, Bool, true, false, List, ℕ, zero, suc, ◌≤◌, ◌<◌, get_or, None, Option, Some}
use Rattle.std.proofs.Common.{sym, ◌∙◌, ap, arith}
use Rattle.std.proofs.Math.Decide.{dec_le}
use Rattle.values.specs.Room.{Room}
use Rattle.connections.specs.Connections.{flags, open_at}
use Rattle.connections.specs.Round.{waits_by, next}
use Rattle.connections.proofs.Laws.Round.Laws.{ahead, NoneBefore, Chosen, nobody, one}
use Rattle.connections.specs.Turn.{Asked, turn_number, turn, tell, chosen, idle, busy, Told, Turns}
use Rattle.connections.proofs.Laws.Turn.Laws.{ServedAs, nobody_served, one_served, accepts, chosen-first, nobody_changes, served-as, told-by, waits-both}
use Rattle.connections.specs.declared.connection.Connection.{Connection}

-- who waits in a turn
abbrev pub waiting : Asked → ℕ → Bool
waiting a = waits_by (flags a.row) a.counts

-- connection i is open, bytes wait for it, and nobody who waits stands before it in the round
pub record First (a : Asked) (i : ℕ) : Type 0 where
  pub within : i < 32
  pub stands_open : open_at a.row i ≡ true
  pub counted : 0 < get_or a.counts i 0
  pub none_before : NoneBefore a.last (ahead a.last i) (waiting a)

true_false : ◌≡◌ {A = Bool} true false → ⊥
true_false e = absurd (let z : ◌≡◌ {A = ℕ} 0 1 = cc in omega arith)

first-chosen : (a : Asked) (i : ℕ) (s : Option ℕ) → s ≡ Some i → Chosen a.last (waiting a) s → First a i
first-chosen a i None q c = absurd (let z : ◌≡◌ {A = ℕ} 0 1 = cc in omega arith)
first-chosen a i (Some k) q (one j l w h) =
    let same : k ≡ i = cc in
    let b = waits-both a.row a.counts k w in
    rw (← same) (record { within = l; stands_open = b.0; counted = b.1; none_before = h })

-- the one that a turn tells as served
pub served-first : {r : Room} {a : Asked} {t : Told} {row' : List Connection} → Turns r a t row' → (i : ℕ) → t.served ≡ Some i → First a i
served-first {r} {a} {t} {row'} p i e = go t.served e (served-as p)
  where
    go : (s : Option ℕ) → s ≡ Some i → ServedAs r a t row' s → First a i
    go None q (nobody_served same told) = absurd (let z : ◌≡◌ {A = ℕ} 0 1 = cc in omega arith)
    go (Some k) q (one_served j z w l b) = first-chosen a i (chosen a) (w ∙ q) (chosen-first r a z)

told_chosen : (r : Room) (a : Asked) (t : Told) (n : ℕ) (s : Option ℕ) → t ≡ tell r a n s → n ≡ 0 → t.served ≡ s
unfolding tell idle busy
told_chosen r a t zero None h e = ap (λ (x : Told). x.served) h
told_chosen r a t zero (Some i) h e = ap (λ (x : Told). x.served) h
told_chosen r a t (suc n) s h e = absurd (omega arith)

-- an accepted turn serves whose turn it is
serves_chosen : {r : Room} {a : Asked} {t : Told} {row' : List Connection} → Turns r a t row' → t.number ≡ 0 → t.served ≡ chosen a
unfolding turn
serves_chosen {r} {a} {t} p e = told_chosen r a t (turn_number r a) (chosen a) (told-by p) (accepts p e)

pub serves_next : {r : Room} {a : Asked} {t : Told} {row' : List Connection} → Turns r a t row' → t.number ≡ 0 → t.served ≡ next a.last (waiting a)
unfolding chosen
serves_next p e = serves_chosen p e

none_waits : (a : Asked) (s : Option ℕ) → s ≡ None → Chosen a.last (waiting a) s → (j : ℕ) → j < 32 → waiting a j ≡ false
none_waits a None q (nobody h) j l = h j l (unfold ahead in omega arith)
none_waits a (Some k) q c j l = absurd (let z : ◌≡◌ {A = ℕ} 0 1 = cc in omega arith)

-- where an accepted turn serves nobody, nobody waits
pub none_waiting : {r : Room} {a : Asked} {t : Told} {row' : List Connection} → Turns r a t row' → t.number ≡ 0 → t.served ≡ None
    → (j : ℕ) → j < 32 → waiting a j ≡ false
none_waiting {r} {a} p z e = none_waits a (chosen a) (sym (serves_chosen p z) ∙ e) (chosen-first r a (accepts p z))

none_chosen : (a : Asked) (s : Option ℕ) → Chosen a.last (waiting a) s → ((j : ℕ) → j < 32 → waiting a j ≡ false) → s ≡ None
none_chosen a None c none = refl
none_chosen a (Some k) (one j l w h) none = absurd (true_false (sym w ∙ none k l))

-- and where nobody waits, it serves nobody and changes nothing
pub none_served : {r : Room} {a : Asked} {t : Told} {row' : List Connection} → Turns r a t row' → t.number ≡ 0 → ((j : ℕ) → j < 32 → waiting a j ≡ false)
    → (t.served ≡ None) × (row' ≡ a.row) × (t ≡ idle 0 a)
none_served {r} {a} {t} {row'} p z none =
    let number = accepts p z in
    let served : t.served ≡ None = serves_chosen p z ∙ none_chosen a (chosen a) (chosen-first r a number) none in
    let same = nobody_changes p served in
    (served, same.0, same.1 ∙ ap (λ (n : ℕ). idle n a) number)

alone-chosen : (a : Asked) (c : ℕ) (s : Option ℕ) → Chosen a.last (waiting a) s → c < 32 → waiting a c ≡ true → ((j : ℕ) → j < 32 → (j ≡ c → ⊥) → waiting a j ≡ false) → s ≡ Some c
alone-chosen a c None (nobody h) l w none = absurd (true_false (sym w ∙ h c l (unfold ahead in omega arith)))
alone-chosen a c (Some k) (one j m v h) l w none = same (dec_le k c) (dec_le c k)
  where
    differs : (k ≡ c → ⊥) → Some k ≡ Some c
    differs d = absurd (true_false (sym v ∙ none k m d))

    same : Dec (k ≤ c) → Dec (c ≤ k) → Some k ≡ Some c
    same (yes p) (yes q) = ap Some (omega arith)
    same (no p) q = differs (λ d. p (omega arith))
    same (yes p) (no q) = differs (λ d. q (omega arith))

-- where one connection alone waits, an accepted turn serves it
pub alone-served : {r : Room} {a : Asked} {t : Told} {row' : List Connection} → Turns r a t row' → t.number ≡ 0 → (c : ℕ) → c < 32 → waiting a c ≡ true
    → ((j : ℕ) → j < 32 → (j ≡ c → ⊥) → waiting a j ≡ false) → t.served ≡ Some c
alone-served {r} {a} p z c l w none = serves_chosen p z ∙ alone-chosen a c (chosen a) (chosen-first r a (accepts p z)) l w none
