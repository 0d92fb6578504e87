-- Laws of the bytes of a row: zero bytes are the fresh row, and opening and closing the bytes is opening and closing the connection that they say.
use Rattle.std.specs.Prelude.{◌≡◌, refl, Bool, cond, List, [], ◌∷◌, ◌++◌, ℕ, zero, suc, ◌+◌, ◌*◌, ◌≤◌, ◌<◌, length, take, drop, set, replicate}
use Rattle.std.proofs.Common.{sym, ◌∙◌, ap, append_assoc, arith, length-drop, take-append-drop, drop_at, drop-drop, length-take-le, take_at}
use Rattle.std.proofs.lemmas.List.{length-replicate, replicate-append-replicate}
use Rattle.std.proofs.lemmas.List.Edits.{sets, sets-eq}
use Rattle.serial_port.specs.Play.Calls.Laws.{fresh-counts}
use Rattle.serial_port.specs.Port.Seen.{seen_fresh}
use Rattle.connections.specs.Connections.{Anew, FreshRow, Left, Switches, made, refused, switch_number, switches}
use Rattle.connections.specs.Connections.Number.{switch-place}
use Rattle.connections.specs.Connections.Switching.{fresh-made}
use Rattle.capi.specs.Connections.{SwitchAnswer, anew, connection_of, connections_of, row_of, switch_answer, switch_by, switch_tells}
use Rattle.capi.specs.Connections.Places.{row_said, row_size, row_stored}
use Rattle.capi.specs.Port.{port_of}
use Rattle.capi.specs.Port.Bytes.{flag_said}
use Rattle.capi.specs.Port.Laws.{zeros-fresh}

-- ---- the fresh row

zeros-said : (n : ℕ) → connections_of n (replicate (67 * n) 0) ≡ replicate n (connection_of (replicate 67 0))
unfolding connections_of
zeros-said zero = refl
zeros-said (suc n) =
    let e : 67 * suc n ≡ 67 + 67 * n = omega arith in
    let cut : replicate {A = ℕ} (67 * suc n) 0 ≡ replicate 67 0 ++ replicate (67 * n) 0 = rw e (sym (replicate-append-replicate 67 (67 * n) 0)) in
    let first : List ℕ = replicate 67 0 in
    let more : List ℕ = replicate (67 * n) 0 in
    let size : length first ≡ 67 = length-replicate {A = ℕ} 67 0 in
    rw (cut, take_at first more 67 size, drop_at first more 67 size, zeros-said n) refl

-- 2,144 zero bytes, with 31 as the last served
pub zeros-row : FreshRow (record { row = row_of (replicate 2144 0); last = 31 })
unfolding connection_of port_of
zeros-row =
    let e : row_of (replicate 2144 0) ≡ replicate 32 (connection_of (replicate 67 0)) = row_said (replicate 2144 0) (length-replicate {A = ℕ} 2144 0) ∙ zeros-said 32 in
    rw e (fresh-made (port_of (replicate 66 0)) zeros-fresh refl)

-- ---- opening and closing

-- the three bytes, with those behind them as they are
anew-stored : (want : Bool) (row : List ℕ) (i : ℕ) → length row ≡ 2144 → i < 32
    → anew want row i ≡ sets row (67 * i) (cond want 1 0 ∷ 0 ∷ 0 ∷ take 64 (drop (67 * i + 3) row))
unfolding anew
anew-stored want row i h l =
    let first = take (67 * i) row in
    let three : List ℕ = cond want 1 0 ∷ 0 ∷ 0 ∷ [] in
    let more = take 64 (drop (67 * i + 3) row) in
    let all : List ℕ = cond want 1 0 ∷ 0 ∷ 0 ∷ more in
    let behind = drop (67 * i + 67) row in
    let size : length more ≡ 64 = length-take-le 64 (drop (67 * i + 3) row) (omega (arith, length-drop (67 * i + 3) row)) in
    let e : 67 * i + 3 + 64 ≡ 67 * i + 67 = omega arith in
    let cut : drop (67 * i + 3) row ≡ more ++ behind = sym (take-append-drop 64 (drop (67 * i + 3) row)) ∙ rw (drop-drop 64 (67 * i + 3) row, e) refl in
    let n : length all ≡ 67 = rw size refl in
    let long : 67 * i + length all ≤ length row = omega arith in
    let whole : sets row (67 * i) all ≡ first ++ all ++ behind = rw n at (sets-eq all row (67 * i) long) in
    sets-eq three row (67 * i) (omega arith) ∙ ap (λ l. first ++ three ++ l) cut ∙ append_assoc first three (more ++ behind) ∙ sym (append_assoc first all behind) ∙ sym whole

-- what 67 bytes say that begin so
anew-said : (want : Bool) (more : List ℕ) → Anew want (connection_of (cond want 1 0 ∷ 0 ∷ 0 ∷ more))
unfolding connection_of port_of
anew-said want more =
    let p = port_of (0 ∷ 0 ∷ more) in
    record { switched = flag_said want; port = fresh-counts p (seen_fresh p refl refl) refl }

row_anew : (want : Bool) (row : List ℕ) (i : ℕ) → switch_number want (row_of row) i ≡ 0 → Left want (row_of row) i 0 (row_of (anew want row i))
row_anew want row i e =
    let place = switch-place want (row_of row) i e in
    let long = row_size row place.0 in
    let more = take 64 (drop (67 * i + 3) row) in
    let size : length more ≡ 64 = length-take-le 64 (drop (67 * i + 3) row) (omega (arith, length-drop (67 * i + 3) row, place.1)) in
    let all : List ℕ = cond want 1 0 ∷ 0 ∷ 0 ∷ more in
    let n : length all ≡ 67 = rw size refl in
    let put : row_of (anew want row i) ≡ set (row_of row) i (connection_of all) =
    ap row_of (anew-stored want row i long (omega (arith, place.1))) ∙ row_stored row all i long (omega (arith, place.1)) n in
    rw put (made (connection_of all) (anew-said want more))

-- the call keeps the promise of opening and closing
pub switches_row : (want : Bool) (row : List ℕ) (i g : ℕ) (row' : List ℕ) → switch_tells g row' ≡ switch_answer want row i → Switches want (row_of row) i g (row_of row')
unfolding switch_tells switch_answer switch_by
switches_row want row i g row' h = go (switch_number want (row_of row) i) refl h
  where
    go : (n : ℕ) → switch_number want (row_of row) i ≡ n → switch_tells g row' ≡ switch_by want row i n → Switches want (row_of row) i g (row_of row')
    go zero e h =
        let row_is : row' ≡ anew want row i = ap (λ (a : SwitchAnswer). a.row) h in
        switches (ap (λ (a : SwitchAnswer). a.number) h ∙ sym e) (rw (e, row_is) (row_anew want row i e))
    go (suc n) e h =
        let row_is : row' ≡ row = ap (λ (a : SwitchAnswer). a.row) h in
        switches (ap (λ (a : SwitchAnswer). a.number) h ∙ sym e) (rw (e, row_is) (refused n))
