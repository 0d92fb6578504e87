-- The start values are right for their table: no more than a table may have, one for each parameter, and each permitted for its row. So is a list that they were put into.
use Rattle.std.specs.Prelude.{◌≡◌, refl, true, List, [], ◌∷◌, ℕ, suc, ◌≤◌, ℤ, length, take, drop, Some}
use Rattle.std.proofs.Common.{sym, ap, arith, eq-eqb, length-append, take_at}
use Rattle.catalogue.specs.Catalogue.{row_limit}
use Rattle.catalogue.specs.Catalogue.Modules.{all_start}
use Rattle.catalogue.specs.Catalogue.Starts.{start_right}
use Rattle.values.specs.Parameters.{parameter_at, parameters}
use Rattle.values.specs.Parameters.Each.{every-parameter}
use Rattle.room.specs.Table.{record_limit, sound}
use Rattle.values.specs.Room.{Room, room_of}
use Rattle.values.specs.Room.Laws.{row_in-own}
use Rattle.values.specs.Values.{each_permitted, value_limit, values_sound}
use Rattle.values.specs.Values.Few.{parameters-few}
use Rattle.values.specs.Starts.{Started, starts, starts_of}
use Rattle.values.specs.Starts.Filling.{length-starts}
use Rattle.values.specs.declared.parameter.Parameter.{Parameter}

pub starts-few : (t : List ℕ) → sound t ≡ true → length (starts t) ≤ value_limit
starts-few t h = omega (arith, length-starts t, parameters-few t h)

-- ---- that each is permitted

each_start : (r : Room) (ps : List Parameter) → ((k : ℕ) (p : Parameter) → parameter_at ps k ≡ Some p → start_right p.row ≡ true) → each_permitted r ps (starts_of ps) ≡ true
unfolding each_permitted starts_of parameter_at
each_start r [] h = refl
each_start r (p ∷ ps) h = rw (row_in-own r p, h 0 p refl) (each_start r ps (λ k q e. h (suc k) q e))

pub starts-right : (t : List ℕ) → sound t ≡ true → values_sound (room_of t) (starts t) ≡ true
unfolding values_sound
starts-right t s =
    let each : each_permitted (room_of t) (parameters t) (starts t) ≡ true =
    unfold starts in each_start (room_of t) (parameters t) (every-parameter start_right all_start t s) in
    rw (eq-eqb (length (starts t)) (length (parameters t)) (length-starts t)) each

-- ---- a list that they were put into

-- there is room for every start value
pub starts-room : (t : List ℕ) (l : List ℤ) → sound t ≡ true → value_limit ≡ length l → length (starts t) ≤ length l
starts-room t l s e = omega (arith, starts-few t s)

-- also in an array of as many values as a table may have
pub starts-array : (t : List ℕ) (l : List ℤ) → sound t ≡ true → length l ≡ 10240 → length (starts t) ≤ length l
unfolding value_limit record_limit row_limit
starts-array t l s e = omega (arith, starts-few t s)

module _ (t : List ℕ) (before : List ℤ) (n : ℕ) (after : List ℤ) (s : Started t before n after) where
  pub started_first : take n after ≡ starts t
  started_first = rw s.list (take_at (starts t) (drop (length (starts t)) before) n (sym s.count))

  pub started_within : n ≤ length after
  started_within = omega (arith, s.count, ap length s.list, length-append (starts t) (drop (length (starts t)) before))

  pub started_right : sound t ≡ true → values_sound (room_of t) (take n after) ≡ true
  started_right h = rw started_first (starts-right t h)

pub ruleset started = (starts-room, starts-array, started_within, started_right)
