-- When exactly a turn is refused, and with which number.
use Rattle.std.specs.Prelude.{◌≡◌, refl, Bool, true, false, ◌&&◌, ◌↔◌, ℕ, ◌≤◌, ◌<◌, eqb, leb, length}
use Rattle.std.proofs.Common.{arith, leb-true, leb-false, ne_eqb}
use Rattle.std.proofs.lemmas.Bool.{eqb-false, lt-leb}
use Rattle.text.specs.Every.{every}
use Rattle.room.specs.Refusal.Laws.{first_by, all, passes, stops, test_passed, test_refused}
use Rattle.room.specs.Table.{sound}
use Rattle.room.specs.Table.Number.{table_passed, table_refused}
use Rattle.values.specs.Room.{Room}
use Rattle.values.specs.Values.{values_sound}
use Rattle.values.specs.Values.Number.{values_passed, values_refused}
use Rattle.serial_port.specs.Refusal.{reply_limit}
use Rattle.serial_port.specs.Refusal.Number.{reply_passed, reply_refused}
use Rattle.connections.specs.Parts.{connection_count, total, counts_right}
use Rattle.connections.specs.Turn.{Asked, row_number, claims_few, ports_number, turn_number}

-- what does not fit: a row or counts not of length 32, counts that do not add up to the length of the bytes, a last served over 31
pub data Misfit (a : Asked) : Type 0 where
  row_length : (length a.row ≡ 32 → ⊥) → Misfit a
  count_length : (length a.counts ≡ 32 → ⊥) → Misfit a
  not_adding : (total a.counts ≡ length a.given → ⊥) → Misfit a
  last_over : 31 < a.last → Misfit a

-- the four tests of 10
abbrev tests : Asked → Bool
tests a = eqb (length a.row) 32 && counts_right a.counts (length a.given) && leb a.last 31

pub data Fitting (a : Asked) : Type 0 where
  fits : row_number a ≡ 0 → Fitting a
  misfits : row_number a ≡ 10 → Misfit a → Fitting a

misfit_number : (a : Asked) → Misfit a → row_number a ≡ 10
unfolding row_number counts_right connection_count
misfit_number a (row_length h) = rw (ne_eqb (length a.row) 32 h) refl
misfit_number a (count_length h) = test_refused (tests a) 10 (go (eqb (length a.row) 32))
  where
    go : (b : Bool) → (b && counts_right a.counts (length a.given) && leb a.last 31) ≡ false
    go true = rw (ne_eqb (length a.counts) 32 h) refl
    go false = refl
misfit_number a (not_adding h) = test_refused (tests a) 10 (go (eqb (length a.row) 32) (eqb (length a.counts) 32))
  where
    go : (b c : Bool) → (b && (c && eqb (total a.counts) (length a.given)) && leb a.last 31) ≡ false
    go true true = rw (ne_eqb (total a.counts) (length a.given) h) refl
    go true false = refl
    go false c = refl
misfit_number a (last_over h) = test_refused (tests a) 10 (go (eqb (length a.row) 32) (counts_right a.counts (length a.given)))
  where
    go : (b c : Bool) → (b && c && leb a.last 31) ≡ false
    go true true = lt-leb a.last 31 h
    go true false = refl
    go false c = refl

fitting : (a : Asked) → Fitting a
unfolding row_number counts_right connection_count
fitting a = go (eqb (length a.row) 32) (eqb (length a.counts) 32) (eqb (total a.counts) (length a.given)) (leb a.last 31) refl refl refl refl
  where
    wrong : Misfit a → Fitting a
    wrong m = misfits (misfit_number a m) m

    go : (b c d e : Bool) → eqb (length a.row) 32 ≡ b → eqb (length a.counts) 32 ≡ c → eqb (total a.counts) (length a.given) ≡ d → leb a.last 31 ≡ e → Fitting a
    go true true true true p q r s = fits (rw (p, q, r, s) refl)
    go false c d e p q r s = wrong (row_length (eqb-false (length a.row) 32 p))
    go true false d e p q r s = wrong (count_length (eqb-false (length a.counts) 32 q))
    go true true false e p q r s = wrong (not_adding (eqb-false (total a.counts) (length a.given) r))
    go true true true false p q r s = wrong (last_over (leb-false a.last 31 s))

-- what each number tells
pub data Verdict (r : Room) (a : Asked) : ℕ → Type 0 where
  misfit : Misfit a → Verdict r a 10
  unsound : row_number a ≡ 0 → sound r.table ≡ false → Verdict r a 1
  wrong : row_number a ≡ 0 → sound r.table ≡ true → values_sound r a.values ≡ false → Verdict r a 2
  short : row_number a ≡ 0 → sound r.table ≡ true → values_sound r a.values ≡ true → length a.buffer < reply_limit → Verdict r a 3
  claims : row_number a ≡ 0 → sound r.table ≡ true → values_sound r a.values ≡ true → reply_limit ≤ length a.buffer → every claims_few a.row ≡ false → Verdict r a 4
  made : row_number a ≡ 0 → sound r.table ≡ true → values_sound r a.values ≡ true → reply_limit ≤ length a.buffer → every claims_few a.row ≡ true → Verdict r a 0

module _ (r : Room) (a : Asked) where
  -- a number with its reason is the turn's
  pub number_by_lem : {n : ℕ} → Verdict r a n → turn_number r a ≡ n
  unfolding turn_number ports_number
  number_by_lem (misfit m) = first_by (stops (misfit_number a m))
  number_by_lem (unsound z s) = first_by (passes z (stops (table_refused r.table s)))
  number_by_lem (wrong z s v) = first_by (passes z (passes (table_passed r.table s) (stops (values_refused r a.values v))))
  number_by_lem (short z s v l) =
      first_by (passes z (passes (table_passed r.table s) (passes (values_passed r a.values v) (stops (reply_refused reply_limit (length a.buffer) l)))))
  number_by_lem (claims z s v l p) =
      first_by
      (passes z
      (passes (table_passed r.table s)
      (passes (values_passed r a.values v) (passes (reply_passed reply_limit (length a.buffer) l) (stops (test_refused (every claims_few a.row) 4 p))))))
  number_by_lem (made z s v l p) =
      first_by
      (passes z
      (passes (table_passed r.table s)
      (passes (values_passed r a.values v)
      (passes (reply_passed reply_limit (length a.buffer) l) (passes (test_passed (every claims_few a.row) 4 p) all)))))

  -- and there is one
  record Judged : Type 0 where
    number : ℕ
    verdict : Verdict r a number

  judged : Judged
  judged = go (fitting a) (sound r.table) (values_sound r a.values) (leb reply_limit (length a.buffer)) (every claims_few a.row) refl refl refl refl
    where
      go : Fitting a → (s v l p : Bool) → sound r.table ≡ s → values_sound r a.values ≡ v → leb reply_limit (length a.buffer) ≡ l → every claims_few a.row ≡ p → Judged
      go (misfits z m) s v l p e f g h = record { number = 10; verdict = misfit m }
      go (fits z) false v l p e f g h = record { number = 1; verdict = unsound z e }
      go (fits z) true false l p e f g h = record { number = 2; verdict = wrong z e f }
      go (fits z) true true false p e f g h = record { number = 3; verdict = short z e f (leb-false reply_limit (length a.buffer) g) }
      go (fits z) true true true false e f g h = record { number = 4; verdict = claims z e f (leb-true reply_limit (length a.buffer) g) h }
      go (fits z) true true true true e f g h = record { number = 0; verdict = made z e f (leb-true reply_limit (length a.buffer) g) h }

  -- the number of every turn, with its reason
  pub verdict : Verdict r a (turn_number r a)
  verdict = let j = judged in rw (number_by_lem j.verdict) j.verdict

  -- 10 exactly where something does not fit, whatever else is wrong
  pub exactly_ten : (turn_number r a ≡ 10) ↔ Misfit a
  exactly_ten = (told verdict, (λ m. number_by_lem (misfit m)))
    where
      told : {n : ℕ} → Verdict r a n → n ≡ 10 → Misfit a
      told (misfit m) e = m
      told (unsound z s) e = absurd (omega arith)
      told (wrong z s v) e = absurd (omega arith)
      told (short z s v l) e = absurd (omega arith)
      told (claims z s v l p) e = absurd (omega arith)
      told (made z s v l p) e = absurd (omega arith)
