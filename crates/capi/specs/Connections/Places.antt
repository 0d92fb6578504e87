-- Where each connection stands in the bytes of a row, and what storing all bytes of one does to the row.
use Rattle.std.specs.Prelude.{◌≡◌, refl, Bool, true, false, List, [], ◌++◌, ℕ, zero, suc, ◌+◌, ◌*◌, ◌≤◌, ◌<◌, eqb, length, get_or, take, drop, set}
use Rattle.std.proofs.Common.{◌∙◌, ap, append_assoc, arith, eq-eqb, eqb-true, ne_eqb, length-drop, drop_at, drop-drop, length-take-le, take-add, take_at}
use Rattle.std.proofs.lemmas.Bool.{eqb-false}
use Rattle.std.proofs.Math.Seq.{length-sets}
use Rattle.std.proofs.lemmas.List.Edits.{sets, sets-eq}
use Rattle.connections.specs.Connections.{closed}
use Rattle.connections.specs.declared.connection.Connection.{Connection}
use Rattle.capi.specs.Connections.{connection_of, connections_of, row_of}

-- ---- so many connections

connections_length : (n : ℕ) (l : List ℕ) → length (connections_of n l) ≡ n
unfolding connections_of
connections_length zero l = refl
connections_length (suc n) l = ap suc (connections_length n (drop 67 l))

connections_at : (n i : ℕ) (l : List ℕ) → i < n → get_or (connections_of n l) i closed ≡ connection_of (take 67 (drop (67 * i) l))
unfolding connections_of
connections_at zero i l h = absurd (omega arith)
connections_at (suc n) zero l h = refl
connections_at (suc n) (suc i) l h =
    let e : 67 * suc i ≡ 67 + 67 * i = omega arith in
    connections_at n i (drop 67 l) (omega arith) ∙ rw (e, drop-drop (67 * i) 67 l) refl

connections_put : (n i : ℕ) (l b : List ℕ) → i < n → 67 * n ≤ length l → length b ≡ 67
    → connections_of n (take (67 * i) l ++ b ++ drop (67 * i + 67) l) ≡ set (connections_of n l) i (connection_of b)
unfolding connections_of
connections_put zero i l b h k w = absurd (omega arith)
connections_put (suc n) zero l b h k w = rw (take_at b (drop 67 l) 67 w, drop_at b (drop 67 l) 67 w) refl
connections_put (suc n) (suc i) l b h k w =
    let e : 67 * suc i ≡ 67 + 67 * i = omega arith in
    let f : 67 + 67 * i + 67 ≡ 67 + (67 * i + 67) = omega arith in
    let d = drop 67 l in
    let rest = take (67 * i) d ++ b ++ drop (67 * i + 67) d in
    let first : length (take 67 l) ≡ 67 = length-take-le 67 l (omega arith) in
    let cut : take (67 * suc i) l ++ b ++ drop (67 * suc i + 67) l ≡ take 67 l ++ rest =
    rw (e, take-add 67 (67 * i) l, f, ← (drop-drop (67 * i + 67) 67 l), append_assoc (take 67 l) (take (67 * i) d) b)
    (append_assoc (take 67 l) (take (67 * i) d ++ b) (drop (67 * i + 67) d)) in
    let more = connections_put n i d b (omega arith) (omega (arith, length-drop 67 l)) w in
    rw (cut, take_at (take 67 l) rest 67 first, drop_at (take 67 l) rest 67 first, more) refl

-- ---- a row

pub row_said : (row : List ℕ) → length row ≡ 2144 → row_of row ≡ connections_of 32 row
unfolding row_of
row_said row h = rw (eq-eqb (length row) 2144 h) refl

pub row_length : (row : List ℕ) → length row ≡ 2144 → length (row_of row) ≡ 32
row_length row h = rw (row_said row h) (connections_length 32 row)

-- any other number of bytes
row_none : (row : List ℕ) → (length row ≡ 2144 → ⊥) → row_of row ≡ []
unfolding row_of
row_none row h = rw (ne_eqb (length row) 2144 h) refl

pub no_thirty_two : (row : List ℕ) → (length row ≡ 2144 → ⊥) → length (row_of row) ≡ 32 → ⊥
no_thirty_two row h e = let z : length {A = Connection} [] ≡ 32 = rw (row_none row h) at e in absurd (omega arith)

pub row_size : (row : List ℕ) → length (row_of row) ≡ 32 → length row ≡ 2144
row_size row e = go (eqb (length row) 2144) refl
  where
    go : (b : Bool) → eqb (length row) 2144 ≡ b → length row ≡ 2144
    go true h = eqb-true (length row) 2144 h
    go false h = absurd (no_thirty_two row (eqb-false (length row) 2144 h) e)

pub row_at : (row : List ℕ) (i : ℕ) → length row ≡ 2144 → i < 32 → get_or (row_of row) i closed ≡ connection_of (take 67 (drop (67 * i) row))
row_at row i h l = rw (row_said row h) (connections_at 32 i row l)

-- all bytes of connection i are stored: the others are as they were
pub row_stored : (row b : List ℕ) (i : ℕ) → length row ≡ 2144 → i < 32 → length b ≡ 67 → row_of (sets row (67 * i) b) ≡ set (row_of row) i (connection_of b)
row_stored row b i h l w =
    let put : sets row (67 * i) b ≡ take (67 * i) row ++ b ++ drop (67 * i + 67) row = rw w at (sets-eq b row (67 * i) (omega arith)) in
    row_said (sets row (67 * i) b) (length-sets row (67 * i) b ∙ h) ∙ rw (put, row_said row h) (connections_put 32 i row b l (omega arith) w)
