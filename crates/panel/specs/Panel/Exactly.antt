-- When exactly a change is refused, and with which number.
use Rattle.std.specs.Prelude.{◌≡◌, Bool, true, ◌&&◌, ◌↔◌, List, ℕ, ◌<◌, ◌≤◌, leb, ℤ, Option, Some, None}
use Rattle.std.proofs.Math.Path.{refl}
use Rattle.std.proofs.Common.{◌∙◌, ap, arith, leb-false, leb-true}
use Rattle.std.proofs.Math.Bool.{false, and-false}
use Rattle.catalogue.specs.Row.{permitted}
use Rattle.room.specs.Refusal.Laws.{first_by, passes, stops, test_refused}
use Rattle.room.specs.Table.{sound}
use Rattle.room.specs.Table.Number.{table_passed, table_refused}
use Rattle.values.specs.Parameters.{by_row}
use Rattle.values.specs.Parameters.Missing.{Missing, exactly_missing}
use Rattle.values.specs.Room.{Room, row_in}
use Rattle.values.specs.Room.Laws.{row_in-settable}
use Rattle.values.specs.Values.{values_sound}
use Rattle.values.specs.Values.Number.{values_passed, values_refused}
use Rattle.values.specs.declared.parameter.Parameter.{Parameter}
use Rattle.serial_port.specs.Refusal.{reply_limit}
use Rattle.serial_port.specs.Refusal.Number.{reply_passed, reply_refused}
use Rattle.panel.specs.Panel.{change_number, panel_number, row_number}
use Rattle.panel.specs.Panel.Laws.{Accepted, accepted}

-- what is not allowed: a module or a row that is not there, a read-only row, a value that the room does not permit
pub data Forbidden (r : Room) (owner row : ℕ) (x : ℤ) : Type 0 where
  missing : Missing r.table owner row → Forbidden r owner row x
  read_only : (p : Parameter) → by_row r.table owner row ≡ Some p → p.row.settable ≡ false → Forbidden r owner row x
  not_permitted : (p : Parameter) → by_row r.table owner row ≡ Some p → permitted (row_in r p) x ≡ false → Forbidden r owner row x

module _ (r : Room) (owner row : ℕ) (x : ℤ) where
  found_number : (f : Option Parameter) → by_row r.table owner row ≡ f → change_number r (by_row r.table owner row) x ≡ change_number r f x
  found_number f e = ap (λ (g : Option Parameter). change_number r g x) e

  forbidden_nine : Forbidden r owner row x → change_number r (by_row r.table owner row) x ≡ 9
  unfolding change_number row_number
  forbidden_nine (missing m) = found_number None ((exactly_missing r.table owner row).1 m)
  forbidden_nine (read_only p e s) =
      found_number (Some p) e ∙ test_refused ((row_in r p).settable && permitted (row_in r p) x) 9 (first (row_in r p).settable (permitted (row_in r p) x) (row_in-settable r p ∙ s))
    where
      first : (a b : Bool) → a ≡ false → (a && b) ≡ false
      first a b h = rw h refl
  forbidden_nine (not_permitted p e h) =
      found_number (Some p) e ∙ test_refused ((row_in r p).settable && permitted (row_in r p) x) 9 (second (row_in r p).settable (permitted (row_in r p) x) h)
    where
      second : (a b : Bool) → b ≡ false → (a && b) ≡ false
      second a b h = rw (h, and-false a) refl

-- what each number tells
pub data Verdict (r : Room) (vs : List ℤ) (reply_room owner row : ℕ) (x : ℤ) : ℕ → Type 0 where
  unsound : sound r.table ≡ false → Verdict r vs reply_room owner row x 1
  wrong : sound r.table ≡ true → values_sound r vs ≡ false → Verdict r vs reply_room owner row x 2
  short : sound r.table ≡ true → values_sound r vs ≡ true → reply_room < reply_limit → Verdict r vs reply_room owner row x 3
  forbidden : sound r.table ≡ true → values_sound r vs ≡ true → reply_limit ≤ reply_room → Forbidden r owner row x → Verdict r vs reply_room owner row x 9
  made : Accepted r vs reply_room owner row x → Verdict r vs reply_room owner row x 0

module _ (r : Room) (vs : List ℤ) (reply_room owner row : ℕ) (x : ℤ) where
  -- a number with its reason is the call's
  number_by_lem : {n : ℕ} → Verdict r vs reply_room owner row x n → panel_number r vs reply_room owner row x ≡ n
  unfolding panel_number
  number_by_lem (unsound s) = first_by (stops (table_refused r.table s))
  number_by_lem (wrong s v) = first_by (passes (table_passed r.table s) (stops (values_refused r vs v)))
  number_by_lem (short s v l) = first_by (passes (table_passed r.table s) (passes (values_passed r vs v) (stops (reply_refused reply_limit reply_room l))))
  number_by_lem (forbidden s v l f) =
      first_by
      (passes (table_passed r.table s)
      (passes (values_passed r vs v) (passes (reply_passed reply_limit reply_room l) (stops (forbidden_nine r owner row x f)))))
  number_by_lem (made a) = accepted r vs reply_room owner row x a

  -- and there is one
  record Judged : Type 0 where
    number : ℕ
    verdict : Verdict r vs reply_room owner row x number

  judged_row : sound r.table ≡ true → values_sound r vs ≡ true → reply_limit ≤ reply_room → (f : Option Parameter) → by_row r.table owner row ≡ f → Judged
  judged_row s v l (Some p) e = go p.row.settable refl (permitted (row_in r p) x) refl
    where
      go : (a : Bool) → p.row.settable ≡ a → (b : Bool) → permitted (row_in r p) x ≡ b → Judged
      go true a true b = record { number = 0; verdict = made (record { table = s; right = v; room = l; parameter = p; found = e; settable = a; permits = b }) }
      go true a false b = record { number = 9; verdict = forbidden s v l (not_permitted p e b) }
      go false a b h = record { number = 9; verdict = forbidden s v l (read_only p e a) }
  judged_row s v l None e = record { number = 9; verdict = forbidden s v l (missing ((exactly_missing r.table owner row).0 e)) }

  judged : Judged
  judged = go (sound r.table) refl (values_sound r vs) refl (leb reply_limit reply_room) refl
    where
      go : (a : Bool) → sound r.table ≡ a → (b : Bool) → values_sound r vs ≡ b → (c : Bool) → leb reply_limit reply_room ≡ c → Judged
      go false s b v c l = record { number = 1; verdict = unsound s }
      go true s false v c l = record { number = 2; verdict = wrong s v }
      go true s true v false l = record { number = 3; verdict = short s v (leb-false reply_limit reply_room l) }
      go true s true v true l = judged_row s v (leb-true reply_limit reply_room l) (by_row r.table owner row) refl

  -- the number of every call, with its reason
  pub verdict : Verdict r vs reply_room owner row x (panel_number r vs reply_room owner row x)
  verdict = let j = judged in rw (number_by_lem j.verdict) j.verdict

  -- 9 exactly when 1, 2 and 3 do not apply, and the module, the row or the value is not allowed
  pub exactly_nine : (panel_number r vs reply_room owner row x ≡ 9)
      ↔ ((sound r.table ≡ true) × (values_sound r vs ≡ true) × (reply_limit ≤ reply_room) × Forbidden r owner row x)
  exactly_nine = (there, (λ h. number_by_lem (forbidden h.0 h.1 h.2 h.3)))
    where
      told : {n : ℕ} → Verdict r vs reply_room owner row x n → n ≡ 9 → (sound r.table ≡ true) × (values_sound r vs ≡ true) × (reply_limit ≤ reply_room) × Forbidden r owner row x
      told (unsound s) e = absurd (omega arith)
      told (wrong s v) e = absurd (omega arith)
      told (short s v l) e = absurd (omega arith)
      told (forbidden s v l f) e = (s, v, l, f)
      told (made a) e = absurd (omega arith)

      there : panel_number r vs reply_room owner row x ≡ 9 → (sound r.table ≡ true) × (values_sound r vs ≡ true) × (reply_limit ≤ reply_room) × Forbidden r owner row x
      there e = told verdict e
