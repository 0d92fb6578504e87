-- Rules for the code that looks over the bytes of a row.
use Rattle.std.specs.Prelude.{◌≡◌, refl, Bool, true, false, not, ◌&&◌, List, [], ℕ, suc, ◌+◌, ◌*◌, ◌≤◌, ◌<◌, eqb, leb, length, get_or, drop, set, replicate}
use Rattle.std.proofs.Common.{sym, ◌∙◌, ap, add-one, arith, drop_of_length-le, drop-cons, get_or-drop, get_or-take}
use Rattle.syntax.specs.Shape.{line_limit}
use Rattle.connections.specs.Connections.{closed}
use Rattle.connections.specs.Survey.{noted, nothing_noted, surveyed_from}
use Rattle.connections.specs.Survey.Noting.{noted-by}
use Rattle.connections.specs.declared.connection.Connection.{Connection}
use Rattle.connections.specs.declared.survey.Survey.{Survey}
use Rattle.capi.specs.Connections.{connection_of, row_of}
use Rattle.capi.specs.Connections.Places.{row_at, row_length}
use Rattle.capi.specs.Connections.Storing.{is_open_said, port_bytes}
use Rattle.capi.specs.Port.{port_of}

-- how many bytes the port of connection i claims
claim-said : (row : List ℕ) (i : ℕ) → length row ≡ 2144 → i < 32 → (get_or (row_of row) i closed).port.len ≡ get_or row (67 * i + 1) 0
unfolding connection_of port_of
claim-said row i h l =
    let e : 67 * i + 1 + 0 ≡ 67 * i + 1 = omega arith in
    ap (λ (c : Connection). c.port.len) (row_at row i h l)
    ∙ ap (λ bytes. get_or bytes 0 0) (port_bytes row i)
    ∙ get_or-take 66 (drop (67 * i + 1) row) 0 0 (omega arith)
    ∙ get_or-drop (67 * i + 1) row 0 0
    ∙ ap (λ k. get_or row k 0) e

-- the first i connections were noted
pub record Looked (row : List ℕ) (i : ℕ) (few : Bool) (flags : List Bool) : Type 0 where
  pub within : i ≤ 32
  pub rest : surveyed_from i (drop i (row_of row)) (record { few = few; flags = flags }) ≡ surveyed_from 0 (row_of row) nothing_noted

pub look_start : (row : List ℕ) → Looked row 0 true (replicate 32 false)
look_start row = record { within = omega arith; rest = refl }

-- the next one
next-noted : (row : List ℕ) (i : ℕ) (s : Survey) → length row ≡ 2144 → i < 32
    → surveyed_from i (drop i (row_of row)) s ≡ surveyed_from (i + 1) (drop (i + 1) (row_of row)) (noted s i (get_or (row_of row) i closed))
next-noted row i s h l =
    let d : drop (i + 1) (row_of row) ≡ drop (suc i) (row_of row) = ap (λ k. drop k (row_of row)) (add-one i) in
    rw (drop-cons (row_of row) i closed (omega (arith, row_length row h)), d) refl

pub look_next : (row : List ℕ) (i claims : ℕ) (few few' : Bool) (flags : List Bool) → few' ≡ (few && leb claims line_limit) → claims ≡ get_or row (67 * i + 1) 0 → Looked row i few flags
    → length row ≡ 2144 → i < 32 → Looked row (i + 1) few' (set flags i (not (eqb (get_or row (67 * i) 0) 0)))
look_next row i claims few few' flags f e k h l =
    let s : Survey = record { few = few; flags = flags } in
    let c = get_or (row_of row) i closed in
    let open_byte = not (eqb (get_or row (67 * i) 0) 0) in
    let same : ◌≡◌ {A = Survey} (record { few = few'; flags = set flags i open_byte }) (noted s i c) =
    noted-by s i c claims few' (set flags i open_byte) f (e ∙ sym (claim-said row i h l)) (ap (set flags i) (sym (is_open_said row i h l))) in
    record { within = omega arith; rest = rw same (sym (next-noted row i s h l) ∙ k.rest) }

pub look_all : (row : List ℕ) (i : ℕ) (few : Bool) (flags : List Bool) → Looked row i few flags → length row ≡ 2144 → 32 ≤ i
    → record { few = few; flags = flags } ≡ surveyed_from 0 (row_of row) nothing_noted
look_all row i few flags k h l =
    let none : drop i (row_of row) ≡ [] = drop_of_length-le (row_of row) {i = i} (omega (arith, row_length row h)) in
    let all = k.rest in
    rw none at all

pub ruleset looking = (look_start, look_next, look_all)
