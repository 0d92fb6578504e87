-- Rules for the code that reads and stores the bytes of a row.
use Rattle.std.specs.Prelude.{◌≡◌, refl, Bool, true, false, not, List, [], ◌∷◌, eqb, length, get_or, take, drop, set}
use Rattle.std.proofs.Common.{sym, ◌∙◌, mul-le-mul_right, length-drop, length-set, drop-drop, get_or-drop, get_or-take, length-take-le}
use Rattle.std.proofs.Math.Path.{ap}
use Rattle.std.proofs.Math.Bool.{cond}
use Prim.Native.Nat.{ℕ, zero, suc, ◌+◌, ◌-◌, ◌*◌, ◌≤◌, ◌<◌}
use Rattle.std.proofs.Math.Numerals.{add-one}
use native.Mathlib.Omega.{arith}
use Rattle.std.proofs.lemmas.Bool.{not-false, not-true}
use Rattle.std.proofs.lemmas.List.Edits.{sets}
use Rattle.text.specs.Written.{Wrote}
use Rattle.text.specs.Written.Laws.{bytes-by, wrote_length}
use Rattle.serial_port.specs.declared.port.Port.{Port}
use Rattle.connections.specs.Connections.{changes, closed, switch_number}
use Rattle.connections.specs.Connections.Number.{number-over, number-there, other_length}
use Rattle.connections.specs.declared.connection.Connection.{Connection}
use Rattle.capi.specs.Connections.{anew, connection_of, row_of, switch_answer, switch_by, switch_tells}
use Rattle.capi.specs.Connections.Places.{no_thirty_two, row_at, row_length}
use Rattle.capi.specs.Port.{port_of}
use Rattle.capi.specs.Port.Bytes.{bytes_of, wrote_whole}

-- ---- a connection, taken out

behind_first : (n : ℕ) (l : List ℕ) → drop 1 (take (suc n) l) ≡ take n (drop 1 l)
behind_first n [] = sym (take-nothing n)
  where
    take-nothing : (n : ℕ) → take {A = ℕ} n [] ≡ []
    take-nothing zero = refl
    take-nothing (suc n) = refl
behind_first n (b ∷ l) = refl

-- the byte that says whether connection i is open
open_byte : (row : List ℕ) (i : ℕ) → get_or (take 67 (drop (67 * i) row)) 0 0 ≡ get_or row (67 * i) 0
open_byte row i =
    let e : 67 * i + 0 ≡ 67 * i = omega arith in
    get_or-take 67 (drop (67 * i) row) 0 0 (omega arith) ∙ get_or-drop (67 * i) row 0 0 ∙ ap (λ k. get_or row k 0) e

-- the bytes of its port
pub port_bytes : (row : List ℕ) (i : ℕ) → drop 1 (take 67 (drop (67 * i) row)) ≡ take 66 (drop (67 * i + 1) row)
port_bytes row i = behind_first 66 (drop (67 * i) row) ∙ ap (take 66) (drop-drop 1 (67 * i) row)

pub is_open_said : (row : List ℕ) (i : ℕ) → length row ≡ 2144 → i < 32 → (get_or (row_of row) i closed).is_open ≡ not (eqb (get_or row (67 * i) 0) 0)
unfolding connection_of
is_open_said row i h l = ap (λ (c : Connection). c.is_open) (row_at row i h l) ∙ ap (λ b. not (eqb b 0)) (open_byte row i)

pub part-said : (row : List ℕ) (first r : ℕ) (h m : List ℕ) → first + 66 ≤ length row → length h ≡ 66 → Wrote h 0 (take (first + 66 - first) (drop first row)) r m → m ≡ take 66 (drop first row)
part-said row first r h m l k w =
    let n : first + 66 - first ≡ 66 = omega arith in
    let size : length (take 66 (drop first row)) ≡ 66 = length-take-le 66 (drop first row) (omega (arith, length-drop first row)) in
    wrote_whole h (take 66 (drop first row)) r m (rw n at w) (size ∙ sym k)

pub taken_out : (row : List ℕ) (i : ℕ) (m : List ℕ) (p : Port) → m ≡ take 66 (drop (67 * i + 1) row) → p ≡ port_of m → length row ≡ 2144 → i < 32
    → record { is_open = not (eqb (get_or row (67 * i) 0) 0); port = p } ≡ get_or (row_of row) i closed
unfolding connection_of
taken_out row i m p w e long l = rw (row_at row i long l, open_byte row i, port_bytes row i, e, w) refl

-- ---- a connection, stored

-- there is room for a port behind a byte, also where fewer than 67 bytes are taken for each connection
pub room_for : (row : List ℕ) (i each k p b : ℕ) (bytes : List ℕ) → length row ≡ 2144 → i < 32 → each ≤ 67 → k ≤ 1 → length bytes ≡ 66 → each * i + k + length bytes ≤ length (set row p b)
room_for row i each k p b bytes h l m n w = omega (arith, length-set row p b, mul-le-mul_right i m)

pub bytes-sixty_six : (q : Port) (m : List ℕ) → length q.held ≡ 64 → m ≡ bytes_of q → length m ≡ 66
unfolding bytes_of
bytes-sixty_six q m h e = rw (e, h) refl

-- the promise of storing a connection that was served: its 67 bytes are 1 and those of its port
pub data StoresServed (row : List ℕ) (i : ℕ) (q : Port) (row' : List ℕ) : Type 0 where
  stores_served : (size : length (bytes_of q) ≡ 66) → (placed : row' ≡ sets row (67 * i) (1 ∷ bytes_of q)) → StoresServed row i q row'

pub served-stored : (row : List ℕ) (i r : ℕ) (m b : List ℕ) (q : Port) → b ≡ bytes_of q → Wrote (set row (67 * i) 1) (67 * i + 1) b r m → length q.held ≡ 64 → StoresServed row i q m
served-stored row i r m b q e w h = stores_served (bytes-sixty_six q (bytes_of q) h refl) (bytes-by w ∙ rw (e, add-one (67 * i)) refl)

pub as_long : (row : List ℕ) (p b at r : ℕ) (s m : List ℕ) → Wrote (set row p b) at s r m → length m ≡ length row
as_long row p b at r s m w = wrote_length w ∙ length-set row p b

pub ruleset taking = (part-said, taken_out, room_for, bytes-sixty_six, served-stored, as_long)

-- ---- opening and closing

by_number : (want : Bool) (row : List ℕ) (i n : ℕ) → switch_number want (row_of row) i ≡ n → switch_by want row i n ≡ switch_answer want row i
unfolding switch_answer
by_number want row i n e = rw e refl

module _ (want : Bool) (row : List ℕ) (i : ℕ) where
  refused : switch_number want (row_of row) i ≡ 10 → switch_tells 10 row ≡ switch_answer want row i
  unfolding switch_by
  refused e = by_number want row i 10 e

  pub other_bytes : (length row ≡ 2144 → ⊥) → switch_tells 10 row ≡ switch_answer want row i
  other_bytes h = refused (other_length want (row_of row) i (no_thirty_two row h))

  pub no_such : 31 < i → switch_tells 10 row ≡ switch_answer want row i
  no_such h = refused (number-over want (row_of row) i h)

  module _ (b : Bool) (long : length row ≡ 2144) (l : i ≤ 31) (e : b ≡ changes want (not (eqb (get_or row (67 * i) 0) 0))) where
    number_is : switch_number want (row_of row) i ≡ cond b 0 10
    number_is = number-there want (row_of row) i b (row_length row long) l (rw (is_open_said row i long (omega arith)) (sym e))

    pub no_change : not b ≡ true → switch_tells 10 row ≡ switch_answer want row i
    no_change h = refused (number_is ∙ ap (λ c. cond c 0 10) (not-true b h))

    pub changed : (f : ℕ) → not b ≡ false → f ≡ cond want 1 0
        → switch_tells 0 (set (set (set row (67 * i) f) (67 * i + 1) 0) (67 * i + 2) 0) ≡ switch_answer want row i
    unfolding switch_by anew
    changed f h g =
        let two : 67 * i + 2 ≡ suc (suc (67 * i)) = omega arith in
        rw (two, add-one (67 * i), g) (by_number want row i 0 (number_is ∙ ap (λ c. cond c 0 10) (not-false b h)))

pub second_byte : (row : List ℕ) (i k p b : ℕ) → length row ≡ 2144 → i ≤ 31 → k ≤ 66 → 67 * i + k < length (set row p b)
second_byte row i k p b h l w = omega (arith, length-set row p b)

pub third_byte : (row : List ℕ) (i k p b q c : ℕ) → length row ≡ 2144 → i ≤ 31 → k ≤ 66 → 67 * i + k < length (set (set row p b) q c)
third_byte row i k p b q c h l w = omega (arith, length-set row p b, length-set (set row p b) q c)

pub ruleset switching = (other_bytes, no_such, no_change, changed, second_byte, third_byte)
