-- The number that opening and closing tell, by its reason, and when exactly it is 10.
use Rattle.std.proofs.Math.Path.{◌≡◌, refl}
use Rattle.std.specs.Prelude.{Bool, cond, ◌&&◌, ◌↔◌, List, ℕ, ◌≤◌, ◌<◌, length, get_or}
use Rattle.std.proofs.Math.Bool.{true, false, and-false}
use Rattle.std.proofs.Common.{arith}
use borrow.Author.Tests.{eq-eqb, eqb-true, eqb-false, ne_eqb, le-leb, leb-true, leb-false, lt-leb}
use Rattle.std.proofs.Math.Dec.{eqb, leb}
use Rattle.std.proofs.Math.ListN.{get_or-map}
use Rattle.text.specs.Every.Laws.{both_left, both_right}
use Rattle.room.specs.Refusal.Laws.{passed_test}
use Rattle.connections.specs.Parts.{connection_count}
use Rattle.connections.specs.Connections.{changes, closed, flags, is_place, open_at, switch_number}
use Rattle.connections.specs.declared.connection.Connection.{Connection}

-- a connection is open by its own flag
pub open_flag : (row : List Connection) (i : ℕ) → open_at row i ≡ (get_or row i closed).is_open
unfolding open_at flags
open_flag row i = get_or-map (λ (c : Connection). c.is_open) row i closed

-- what 10 tells: the row has not 32 connections, the number is over 31, or the connection is open (closed) already
pub data Unfit (want : Bool) (row : List Connection) (i : ℕ) : Type 0 where
  row_length : (length row ≡ 32 → ⊥) → Unfit want row i
  over : 31 < i → Unfit want row i
  so-already : open_at row i ≡ want → Unfit want row i

no_change : (want now : Bool) → now ≡ want → changes want now ≡ false
unfolding changes
no_change true now e = rw e refl
no_change false now e = e

unchanged : (want now : Bool) → changes want now ≡ false → now ≡ want
unfolding changes
unchanged true true e = refl
unchanged true false e = absurd (let z : ◌≡◌ {A = ℕ} 0 1 = cc in omega arith)
unchanged false now e = e

module _ (want : Bool) (row : List Connection) (i : ℕ) where
  pub other_length : (length row ≡ 32 → ⊥) → switch_number want row i ≡ 10
  unfolding switch_number is_place connection_count
  other_length h = rw (ne_eqb (length row) 32 h) refl

  pub number-over : 31 < i → switch_number want row i ≡ 10
  unfolding switch_number is_place connection_count
  number-over h = rw (lt-leb i 31 h, and-false (eqb (length row) 32)) refl

  -- by whether it is a change
  pub number-there : (b : Bool) → length row ≡ 32 → i ≤ 31 → changes want (get_or row i closed).is_open ≡ b → switch_number want row i ≡ cond b 0 10
  unfolding switch_number is_place connection_count
  number-there b n l e = rw (eq-eqb (length row) 32 n, le-leb i 31 l, open_flag row i, e) refl

  -- what is not refused
  pub switch-place : switch_number want row i ≡ 0 → (length row ≡ 32) × (i ≤ 31)
  unfolding switch_number is_place connection_count
  switch-place h =
      let b = both_left (eqb (length row) 32 && leb i 31) (changes want (open_at row i)) (passed_test (eqb (length row) 32 && leb i 31 && changes want (open_at row i)) 9 h) in
      (eqb-true (length row) 32 (both_left (eqb (length row) 32) (leb i 31) b), leb-true i 31 (both_right (eqb (length row) 32) (leb i 31) b))

  unfit_number : Unfit want row i → switch_number want row i ≡ 10
  unfolding switch_number
  unfit_number (row_length h) = other_length h
  unfit_number (over h) = number-over h
  unfit_number (so-already e) = rw (no_change want (open_at row i) e, and-false (is_place (length row) i)) refl

  told-unfit : switch_number want row i ≡ 10 → Unfit want row i
  unfolding switch_number is_place connection_count
  told-unfit e = go (eqb (length row) 32) (leb i 31) (changes want (open_at row i)) refl refl refl e
    where
      go : (a b c : Bool) → eqb (length row) 32 ≡ a → leb i 31 ≡ b → changes want (open_at row i) ≡ c → ◌≡◌ {A = ℕ} (cond (a && b && c) 0 10) 10 → Unfit want row i
      go false b c p q r e = row_length (eqb-false (length row) 32 p)
      go true false c p q r e = over (leb-false i 31 q)
      go true true false p q r e = so-already (unchanged want (open_at row i) r)
      go true true true p q r e = absurd (omega arith)

  pub exactly_ten : (switch_number want row i ≡ 10) ↔ Unfit want row i
  exactly_ten = (told-unfit, unfit_number)
