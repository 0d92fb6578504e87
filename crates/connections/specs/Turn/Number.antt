-- The number of a turn over a row of 32, by what was noted of its ports.
use Rattle.std.specs.Prelude.{◌≡◌, refl, Bool, true, false, not, cond, ◌&&◌, List, [], ◌∷◌, ℕ, ◌≤◌, ◌<◌, leb, ℤ, length}
use Rattle.std.proofs.Common.{sym, ◌∙◌, eq-eqb, le-leb}
use Rattle.std.proofs.Math.Bool.{and-false}
use Rattle.std.proofs.lemmas.Bool.{lt-leb, not-true, not-false}
use Rattle.text.specs.Every.{every}
use Rattle.room.specs.Refusal.{first_refusal}
use Rattle.room.specs.Refusal.Laws.{refusing}
use Rattle.room.specs.Table.{table_number}
use Rattle.room.specs.Table.Number.{table_held}
use Rattle.values.specs.Room.{Room}
use Rattle.values.specs.Values.{values_number}
use Rattle.serial_port.specs.Refusal.{reply_limit, reply_number}
use Rattle.connections.specs.Parts.{connection_count, counts_right}
use Rattle.connections.specs.Turn.{Asked, row_number, claims_few, ports_number, turn_number}

-- 10 the counts do not divide the bytes, or the last served is over 31
unfoldable pub fit_number : (counts : List ℕ) → (bytes last : ℕ) → ℕ
fit_number counts bytes last = cond (counts_right counts bytes && leb last 31) 0 10

-- 4 not every port claims at most 64 bytes
unfoldable pub claims_number : (few : Bool) → ℕ
claims_number few = cond few 0 4

-- the first that applies in the turn's order
unfoldable pub number_by : Room → (few : Bool) → (last : ℕ) → (counts : List ℕ) → (bytes : ℕ) → List ℤ → (reply_room : ℕ) → ℕ
number_by r few last counts bytes vs reply_room =
    first_refusal (fit_number counts bytes last ∷ table_number r.table ∷ values_number r vs ∷ reply_number reply_limit reply_room ∷ claims_number few ∷ [])

-- of a row of 32 that was looked over, it is the turn's
pub number-noted : (r : Room) (a : Asked) → length a.row ≡ 32
    → number_by r (every claims_few a.row) a.last a.counts (length a.given) a.values (length a.buffer) ≡ turn_number r a
unfolding number_by turn_number fit_number row_number claims_number ports_number connection_count
number-noted r a n = rw (eq-eqb (length a.row) 32 n) refl

-- ---- rules for the code

pub counts_wrong : (counts : List ℕ) (bytes last : ℕ) (b : Bool) → b ≡ counts_right counts bytes → not b ≡ true → 10 ≡ fit_number counts bytes last
unfolding fit_number
counts_wrong counts bytes last b e h = let q : counts_right counts bytes ≡ false = sym e ∙ not-true b h in rw q refl

pub last_wrong : (counts : List ℕ) (bytes last : ℕ) → 31 < last → 10 ≡ fit_number counts bytes last
unfolding fit_number
last_wrong counts bytes last h = rw (lt-leb last 31 h, and-false (counts_right counts bytes)) refl

pub fits_told : (counts : List ℕ) (bytes last : ℕ) (b : Bool) → b ≡ counts_right counts bytes → not b ≡ false → last ≤ 31 → 0 ≡ fit_number counts bytes last
unfolding fit_number
fits_told counts bytes last b e h l = let q : counts_right counts bytes ≡ true = sym e ∙ not-false b h in rw (q, le-leb last 31 l) refl

pub claims_few_lem : (few : Bool) → few ≡ true → 0 ≡ claims_number few
unfolding claims_number
claims_few_lem few h = rw h refl

pub claims_many : (few : Bool) → few ≡ false → 4 ≡ claims_number few
unfolding claims_number
claims_many few h = rw h refl

pub tells-turn : (r : Room) (few : Bool) (last : ℕ) (counts : List ℕ) (bytes : ℕ) (vs : List ℤ) (reply_room n : ℕ)
    → n ≡ first_refusal (fit_number counts bytes last ∷ table_number r.table ∷ values_number r vs ∷ reply_number 64 reply_room ∷ claims_number few ∷ [])
    → n ≡ number_by r few last counts bytes vs reply_room
unfolding number_by reply_limit
tells-turn r few last counts bytes vs reply_room n e = e

pub ruleset numbering = (counts_wrong, last_wrong, fits_told, claims_few_lem, claims_many, table_held, tells-turn, refusing)
