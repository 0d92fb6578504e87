-- How long a table may be: at most 64 records, each of a kind and the longest body.
use Rattle.std.specs.Prelude.{◌≡◌, true, List, [], ◌∷◌, ℕ, zero, suc, ◌*◌, ◌≤◌, length, take, drop}
use Rattle.std.proofs.Common.{arith, length-drop}
use Rattle.text.specs.Every.Laws.{both, never}
use Rattle.record.specs.Body.{body_length, body_sound}
use Rattle.record.specs.Body.Laws.{body_most}
use Rattle.room.specs.Table.{record_limit, records_sound, sound}

records_short : (left : ℕ) (t : List ℕ) → records_sound left t ≡ true → length t ≤ 35 * left
unfolding records_sound
records_short zero [] e = omega arith
records_short zero (kind ∷ t) e = never e
records_short (suc left) [] e = omega arith
records_short (suc left) (kind ∷ t) e =
    let size = body_length kind in
    let rest = records_short left (drop size t) (both (body_sound kind (take size t)) (records_sound left (drop size t)) e).1 in
    omega (arith, rest, body_most kind, length-drop size t)

-- a sound table has at most 2,240 bytes
pub table_short : (t : List ℕ) → sound t ≡ true → length t ≤ 2240
unfolding sound record_limit
table_short t e = records_short 64 t e
