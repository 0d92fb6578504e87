-- The walk over a table's records: a running position, the record's number, and the number of its first value.
use Rattle.std.specs.Prelude.{◌≡◌, refl, Bool, true, false, List, [], ◌∷◌, ltb, get_or, take, drop}
use Rattle.std.proofs.Math.Path.{ap}
use Prim.Native.Nat.{ℕ, zero, suc, ◌+◌, ◌-◌, ◌*◌, ◌≤◌, ◌<◌}
use Rattle.std.proofs.Math.Numerals.{add-one}
use native.Mathlib.Omega.{arith}
use Rattle.std.proofs.Common.{ltb-true, ltb-false, Fits, length-take, length-drop, drop_of_length-le, drop-cons}
use Rattle.std.specs.Int.{w64}
use Rattle.std.proofs.Math.ListN.{length}
use Rattle.std.proofs.Math.Seq.{drop-drop}
use Rattle.catalogue.specs.Catalogue.{known, known_layout, row_limit, rows_of}
use Rattle.catalogue.specs.declared.layout.Layout.{Layout}
use Rattle.text.specs.Every.Laws.{both_left, both_right}
use Rattle.catalogue.specs.Catalogue.Laws.{known-kind, rows_few}
use Rattle.room.specs.Table.{modules, modules_from, record_limit, records_sound, sound}
use Rattle.record.specs.Body.{body_length, body_sound}
use Rattle.record.specs.Body.Laws.{sound-body}
use Rattle.record.specs.Layout.{layout_at, layout_of}
use Rattle.record.specs.Layout.Laws.{known_at, layout_body, layout_here, layout_known}
use Rattle.room.specs.declared.table.Module.{Module}

-- the modules from the record at a place on
unfoldable pub modules_at : List ℕ → (number place first : ℕ) → List Module
modules_at t number place first = modules_from (64 - number) number place first (drop place t)

-- the walk stands at a record of a sound table, or at its end
pub record Walk (t : List ℕ) (number place first : ℕ) : Type 0 where
  pub within : place ≤ length t
  pub few : number ≤ 64
  pub small : first ≤ row_limit * number
  pub rest : records_sound (64 - number) (drop place t) ≡ true
  pub total : length (modules t) ≡ number + length (modules_at t number place first)

none : (left number place first : ℕ) → modules_from left number place first [] ≡ []
unfolding modules_from
none zero number place first = refl
none (suc left) number place first = refl

pub modules-start : (t : List ℕ) → modules t ≡ modules_at t 0 0 0
unfolding modules modules_at record_limit
modules-start t = refl

pub walk_start : (t : List ℕ) → sound t ≡ true → Walk t 0 0 0
unfolding sound record_limit
walk_start t e = record { within = omega arith; few = omega arith; small = omega arith; rest = e; total = omega (arith, ap length (modules-start t)) }

-- the first of some records
record First (left kind : ℕ) (t : List ℕ) : Type 0 where
  known : known_layout (layout_of kind (take (body_length kind) t)) ≡ true
  room : body_length kind ≤ length t
  body : body_sound kind (take (body_length kind) t) ≡ true
  others : records_sound left (drop (body_length kind) t) ≡ true

first-record : (left kind : ℕ) (t : List ℕ) → records_sound (suc left) (kind ∷ t) ≡ true → First left kind t
unfolding records_sound
first-record left kind t e =
    let size = body_length kind in
    let b = both_left (body_sound kind (take size t)) (records_sound left (drop size t)) e in
    let s = sound-body kind (take size t) b in
    record {
      known = layout_known kind (take size t) b;
      room = omega (arith, s.long, length-take size t);
      body = b;
      others = both_right (body_sound kind (take size t)) (records_sound left (drop size t)) e;
    }

some_left : (left kind : ℕ) (t : List ℕ) → records_sound left (kind ∷ t) ≡ true → 0 < left
unfolding records_sound
some_left zero kind t e = absurd (let z : ◌≡◌ {A = ℕ} 0 1 = cc in omega arith)
some_left (suc left) kind t e = omega arith

module _ (t : List ℕ) (number place first : ℕ) (w : Walk t number place first) (l : place < length t) where
  pub walk_few : number < 64
  walk_few =
      let e : records_sound (64 - number) (get_or t place 0 ∷ drop (suc place) t) ≡ true = rw (drop-cons t place 0) at w.rest in
      omega (arith, some_left (64 - number) (get_or t place 0) (drop (suc place) t) e)

  at-record : First (64 - (number + 1)) (get_or t place 0) (drop (place + 1) t)
  at-record =
      let f = walk_few in
      let n : 64 - number ≡ suc (64 - (number + 1)) = omega arith in
      first-record (64 - (number + 1)) (get_or t place 0) (drop (place + 1) t) (rw (drop-cons t place 0, ← add-one place, n) at w.rest)

  pub walk_known : known_layout (layout_at t place) ≡ true
  walk_known = rw (layout_here t place) at-record.known

  pub walk_kind : known (get_or t place 0) ≡ true
  walk_kind = known_at t place walk_known

  -- also of the layout that code has read
  pub layout_walked : (l : Layout) → l ≡ layout_at t place → known_layout l ≡ true
  layout_walked l e = rw e walk_known

  pub layout_known_kind : (l : Layout) → l ≡ layout_at t place → known l.kind ≡ true
  layout_known_kind l e = known-kind l (layout_walked l e)

  pub walk_room : (size : ℕ) → size ≡ body_length (get_or t place 0) → place + 1 + size ≤ length t
  walk_room size e = omega (arith, at-record.room, length-drop (place + 1) t)

  pub record_inside : place + 1 + body_length (get_or t place 0) ≤ length t
  record_inside = walk_room (body_length (get_or t place 0)) refl

  pub walk_body : (size : ℕ) → size ≡ body_length (get_or t place 0) → body_sound (get_or t place 0) (take size (drop (place + 1) t)) ≡ true
  walk_body size e = rw e at-record.body

  pub modules-next : (size rows : ℕ) → size ≡ body_length (get_or t place 0) → rows ≡ length (rows_of (layout_at t place))
      → modules_at t number place first ≡
      record { number = number; place = place; layout = layout_at t place; first = first } ∷
      modules_at t (number + 1) (place + 1 + size) (first + rows)
  unfolding modules_at modules_from
  modules-next size rows e n =
      let f = walk_few in
      let m : 64 - number ≡ suc (64 - (number + 1)) = omega arith in
      rw (drop-cons t place 0, m, n, layout_here t place, add-one place, drop-drop, e)

  pub walk_numbered : number < length (modules t)
  walk_numbered = omega (arith, w.total, ap length (modules-next (body_length (get_or t place 0)) (length (rows_of (layout_at t place))) refl refl))

  pub walk_next : (size rows : ℕ) → size ≡ body_length (get_or t place 0) → rows ≡ length (rows_of (layout_at t place))
      → Walk t (number + 1) (place + 1 + size) (first + rows)
  unfolding row_limit
  walk_next size rows e n =
      record {
        within = walk_room size e;
        few = omega (arith, walk_few);
        small = omega (arith, rows_few (layout_at t place) walk_known);
        rest = rw (← e, drop-drop) at at-record.others;
        total = omega (arith, w.total, ap length (modules-next size rows e n));
      }

  -- the next record's place and first value are numbers of the machine
  pub place-fits : (size : ℕ) → size ≡ body_length (get_or t place 0) → length t < 18446744073709551616 → Fits w64 (place + 1 + size)
  place-fits size e b = record { fits = omega (arith, walk_room size e) }

  pub first_fits : (rows : ℕ) → rows ≡ length (rows_of (layout_at t place)) → Fits w64 (first + rows)
  unfolding row_limit
  first_fits rows n = record { fits = omega (arith, rows_few (layout_at t place) walk_known, walk_few) }

pub modules-end : (t : List ℕ) (number place first : ℕ) → length t ≤ place → modules_at t number place first ≡ []
unfolding modules_at
modules-end t number place first l = rw (drop_of_length-le t l) (none (64 - number) number place first)

pub walk_counted : (t : List ℕ) (number place first : ℕ) → Walk t number place first → length t ≤ place → length (modules t) ≡ number
walk_counted t number place first w l = omega (arith, w.total, ap length (modules-end t number place first l))

-- what holds at the end, and at a record if at the next one, holds at every record
module _ (t : List ℕ) (P : (number place first : ℕ) → Type 0)
    (last : (number place first : ℕ) → length t ≤ place → P number place first)
    (more : (number place first : ℕ) → Walk t number place first → place < length t
    → P (number + 1) (place + 1 + body_length (get_or t place 0)) (first + length (rows_of (layout_at t place))) → P number place first) where
  by_turns : (left number place first : ℕ) → Walk t number place first → 64 ≤ number + left → P number place first
  by_turns zero number place first w h = last number place first (past (ltb place (length t)) refl)
    where
      past : (b : Bool) → ltb place (length t) ≡ b → length t ≤ place
      past true e = omega (arith, walk_few t number place first w (ltb-true place (length t) e))
      past false e = ltb-false place (length t) e
  by_turns (suc left) number place first w h =
      turn (λ l. by_turns left (number + 1) (place + 1 + body_length (get_or t place 0)) (first + length (rows_of (layout_at t place)))
      (walk_next t number place first w l (body_length (get_or t place 0)) (length (rows_of (layout_at t place))) refl refl) (omega arith))
      (ltb place (length t)) refl
    where
      turn : (place < length t → P (number + 1) (place + 1 + body_length (get_or t place 0)) (first + length (rows_of (layout_at t place))))
          → (b : Bool) → ltb place (length t) ≡ b → P number place first
      turn next true e = more number place first w (ltb-true place (length t) e) (next (ltb-true place (length t) e))
      turn next false e = last number place first (ltb-false place (length t) e)

  pub walk_induction : (number place first : ℕ) → Walk t number place first → P number place first
  walk_induction number place first w = by_turns 64 number place first w (omega arith)

-- the rows that code has counted by the layout that it has read
pub layout_rows : (t : List ℕ) (place rows : ℕ) (l : Layout) → l ≡ layout_at t place → rows ≡ length (rows_of l) → rows ≡ length (rows_of (layout_at t place))
layout_rows t place rows l e n = rw e at n

pub ruleset walking = (walk_start, walk_known, walk_kind, layout_walked, layout_known_kind, record_inside, layout_body, layout_rows, walk_room, walk_next, place-fits, first_fits)
