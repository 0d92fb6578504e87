-- The check of a table, record by record.
use Rattle.std.specs.Prelude.{◌≡◌, refl, true, false, ◌&&◌, List, [], ◌∷◌, length, get_or, take, drop}
use Rattle.std.proofs.Common.{sym, ◌∙◌, length-drop, drop_of_length-le, drop-cons, drop-drop, take_all, Fits}
use Prim.Native.Nat.{ℕ, zero, suc, ◌+◌, ◌-◌, ◌≤◌, ◌<◌}
use Rattle.std.proofs.Math.Numerals.{add-one}
use native.Mathlib.Omega.{arith}
use Rattle.std.specs.Int.{w64}
use Rattle.room.specs.Table.{record_limit, records_sound, sound}
use Rattle.record.specs.Body.{body_length, body_sound}
use Rattle.record.specs.Body.Begun.{begun-size, begun-within, body_begun, none_begun, sound_length}

-- the records before a place are sound, and as many may follow as are left
pub record Checked (t : List ℕ) (place left : ℕ) : Type 0 where
  pub within : place ≤ length t
  pub few : left ≤ 64
  pub rest : sound t ≡ records_sound left (drop place t)

pub checked_start : (t : List ℕ) → Checked t 0 64
unfolding sound record_limit
checked_start t = record { within = omega arith; few = omega arith; rest = refl }

none_left : (kind : ℕ) (t : List ℕ) → records_sound 0 (kind ∷ t) ≡ false
unfolding records_sound
none_left kind t = refl

-- a record too many
pub checked_over : (t : List ℕ) (place left : ℕ) → Checked t place left → place < length t → left ≡ 0 → false ≡ sound t
checked_over t place left h l e =
    let r : sound t ≡ records_sound 0 (get_or t place 0 ∷ drop (suc place) t) = rw (drop-cons t place 0, e) at h.rest in
    sym (r ∙ none_left (get_or t place 0) (drop (suc place) t))

module _ (t : List ℕ) (place left size : ℕ) (h : Checked t place left) (l : place < length t) (some : left ≡ 0 → ⊥)
    (e : size ≡ sound_length (get_or t place 0) (take (length t - (place + 1)) (drop (place + 1) t))) where
  abbrev kind : ℕ
  kind = get_or t place 0

  rest-is : size ≡ sound_length kind (drop (place + 1) t)
  rest-is = rw (take_all (length t - (place + 1)) (drop (place + 1) t) (omega (arith, length-drop (place + 1) t))) at e

  one_more : sound t ≡ (body_sound kind (take (body_length kind) (drop (place + 1) t)) && records_sound (left - 1) (drop (place + 1 + body_length kind) t))
  unfolding records_sound
  one_more =
      let n : left ≡ suc (left - 1) = omega arith in
      rw (drop-cons t place 0, n, ← add-one place, drop-drop) at h.rest

  -- a body that is not sound, or cut short by the table's end
  pub checked_not : size ≡ 0 → false ≡ sound t
  checked_not z = sym (one_more ∙ rw (none_begun kind size (drop (place + 1) t) rest-is z))

  module _ (n : size ≡ 0 → ⊥) where
    pub checked_within : place + 1 + size ≤ length t
    checked_within = omega (arith, begun-within kind size (drop (place + 1) t) rest-is n, length-drop (place + 1) t)

    pub checked_fits : Fits w64 (length t) → Fits w64 (place + 1 + size)
    checked_fits f = record { fits = omega (arith, checked_within, f.fits) }

    pub checked_next : Checked t (place + 1 + size) (left - 1)
    checked_next =
        record {
          within = checked_within;
          few = omega (arith, h.few);
          rest = one_more ∙ rw (body_begun kind size (drop (place + 1) t) rest-is n, ← begun-size kind size (drop (place + 1) t) rest-is n);
        }

no_record : (left : ℕ) → records_sound left [] ≡ true
unfolding records_sound
no_record zero = refl
no_record (suc left) = refl

pub checked_all : (t : List ℕ) (place left : ℕ) → Checked t place left → length t ≤ place → true ≡ sound t
checked_all t place left h l = sym (h.rest ∙ rw (drop_of_length-le t l) (no_record left))

pub ruleset checking = (checked_start, checked_over, checked_not, checked_within, checked_fits, checked_next, checked_all)
