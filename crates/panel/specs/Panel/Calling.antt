-- Rules for the code of a change: what is refused, what is made, and the whole call.
use Rattle.std.specs.Prelude.{◌≡◌, refl, true, List, [], ◌∷◌, ℕ, zero, suc, ◌+◌, ◌<◌, ◌≤◌, ℤ, pos, length, get_or, set, Option, Some, None}
use Rattle.std.proofs.Common.{sym, ◌∙◌, arith, SFits}
use Rattle.std.proofs.Math.Nat.{zero-add}
use Rattle.std.proofs.Math.Facts.{to_z-of_z}
use Rattle.std.specs.Int.{w64}
use Rattle.text.specs.Written.{Wrote}
use Rattle.text.specs.Written.Laws.{past_by, bytes-by}
use Rattle.catalogue.specs.Catalogue.Modules.{row_of-fits}
use Rattle.catalogue.specs.Row.{RowFits}
use Rattle.catalogue.specs.Row.Laws.{bits}
use Rattle.record.specs.Field.Bytes.{label_right_lem}
use Rattle.room.specs.Label.{label}
use Rattle.room.specs.Label.Laws.{module_label}
use Rattle.room.specs.Refusal.{first_refusal}
use Rattle.room.specs.Refusal.Laws.{first-last, first-passed, first_stops, refusal-some}
use Rattle.room.specs.Table.{sound, table_number}
use Rattle.room.specs.Table.Modules.{module_in, module_known, module_room}
use Rattle.room.specs.Table.Number.{table_held}
use Rattle.values.specs.Parameters.{by_row, place}
use Rattle.values.specs.Parameters.ByRow.{by_row-told}
use Rattle.values.specs.Parameters.First.{place_is}
use Rattle.values.specs.Parameters.Laws.{own_row}
use Rattle.values.specs.Room.{Room, room_of}
use Rattle.values.specs.Values.{values_number, values_sound}
use Rattle.values.specs.Values.Laws.{value_inside}
use Rattle.values.specs.Values.Number.{passed_values}
use Rattle.values.specs.declared.parameter.Parameter.{Parameter}
use Rattle.line.specs.Told.Laws.{reply_within}
use Rattle.serial_port.specs.Refusal.{reply_limit, reply_number}
use Rattle.serial_port.specs.Refusal.Number.{passed_reply}
use Rattle.panel.specs.Panel.{Changed, Changes, changes, change_number, changed, notice, panel, panel_number, refused, tell, tells}
use Rattle.panel.specs.Panel.Changing.{FoundFits, Tellable, number-nothing, own_number, own_number_lem}

-- ---- a change of the parameter that was found

-- what is known of it: its row, its value's place, and that it can be told
pub record FoundIn (t : List ℕ) (vs : List ℤ) (f : Option Parameter) : Type 0 where
  pub fits : (p : Parameter) → f ≡ Some p → RowFits p.row
  pub within : (p : Parameter) → f ≡ Some p → p.owner.first + p.number < length vs
  pub tellable : (p : Parameter) → f ≡ Some p → Tellable t p

-- what is done, by 3 and 9
pub data ChangesFound (r : Room) (vs : List ℤ) (buffer : List ℕ) (f : Option Parameter) (x : ℤ) (c : Changed) (vs' : List ℤ) (buffer' : List ℕ) : Type 0 where
  changes-found : (told : tells c vs' buffer' ≡ tell r.table (first_refusal (reply_number reply_limit (length buffer) ∷ change_number r f x ∷ [])) vs buffer f x)
      → ChangesFound r vs buffer f x c vs' buffer'

module _ (t : List ℕ) (vs : List ℤ) (f : Option Parameter) (h : FoundIn t vs f) where
  pub found-fits : FoundFits f
  found-fits = record { fits = h.fits }

  module _ (p : Parameter) (e : f ≡ Some p) where
    pub found_within : p.owner.first + p.number < length vs
    found_within = h.within p e

    pub found-tellable : Tellable t p
    found-tellable = h.tellable p e

tells-refused : (t : List ℕ) (vs : List ℤ) (buffer : List ℕ) (f : Option Parameter) (x : ℤ) (n : ℕ) → (n ≡ 0 → ⊥)
    → tells (record { sent = 0; number = n }) vs buffer ≡ tell t n vs buffer f x
unfolding tells tell refused
tells-refused t vs buffer f x zero h = absurd (h refl)
tells-refused t vs buffer f x (suc n) h = refl

module _ (r : Room) (vs : List ℤ) (buffer : List ℕ) (f : Option Parameter) (x : ℤ) (n : ℕ) (e : n ≡ reply_number 64 (length buffer)) where
  reply_number_lem : n ≡ reply_number reply_limit (length buffer)
  unfolding reply_limit
  reply_number_lem = e

  pub found-short : (n ≡ 0 → ⊥) → ChangesFound r vs buffer f x (record { sent = 0; number = n }) vs buffer
  found-short h =
      changes-found
      (rw (first_stops (reply_number reply_limit (length buffer)) (change_number r f x ∷ []) (λ z. h (reply_number_lem ∙ z)), ← reply_number_lem)
      (tells-refused r.table vs buffer f x n h))

  module _ (z : n ≡ 0) where
    pub found-room : 64 ≤ length buffer
    found-room = passed_reply 64 (length buffer) (sym e ∙ z)

    by_change : first_refusal (reply_number reply_limit (length buffer) ∷ change_number r f x ∷ []) ≡ own_number f x
    by_change = first-passed (reply_number reply_limit (length buffer)) (change_number r f x ∷ []) (sym reply_number_lem ∙ z) ∙ first-last (change_number r f x) ∙ sym (own_number_lem r f x)

    module _ (fit : SFits w64 x) (m : ℕ) (k : m ≡ own_number f (bits x)) where
      judged : first_refusal (reply_number reply_limit (length buffer) ∷ change_number r f x ∷ []) ≡ m
      judged = by_change ∙ sym (rw (to_z-of_z fit) at k)

      pub found-refused : (m ≡ 0 → ⊥) → ChangesFound r vs buffer f x (record { sent = 0; number = m }) vs buffer
      found-refused h = changes-found (rw judged (tells-refused r.table vs buffer f x m h))

      pub found_nothing : f ≡ None → ChangesFound r vs buffer f x (record { sent = 0; number = 9 }) vs buffer
      found_nothing q = changes-found (rw (by_change, ← number-nothing f x q) (tells-refused r.table vs buffer f x 9 (λ z. omega arith)))

      pub found-changed : (p : Parameter) (v : ℤ) (vs' : List ℤ) (sent : ℕ) (buffer' : List ℕ) → m ≡ 0 → f ≡ Some p → SFits w64 v → v ≡ get_or vs (place p) (pos 0)
          → vs' ≡ set vs (place p) (bits x) → Wrote buffer 0 (notice r.table p (bits v) (bits x)) sent buffer'
          → ChangesFound r vs buffer f x (record { sent = sent; number = 0 }) vs' buffer'
      unfolding tells tell changed
      found-changed p v vs' sent buffer' y q g b s w =
          let s' = rw (to_z-of_z fit) at s in
          let w' = rw (to_z-of_z g, to_z-of_z fit, b) at w in
          changes-found (rw (judged, y, q, past_by w', bytes-by w', s', zero-add (length (notice r.table p (get_or vs (place p) (pos 0)) x))) refl)

pub ruleset changing = (refusal-some, found-fits, found_within, found-tellable, found-short, found-room, found-refused, found_nothing, found-changed)

-- ---- the whole call

module _ (t : List ℕ) (vs : List ℤ) (s : sound t ≡ true) (v : values_sound (room_of t) vs ≡ true) (n j : ℕ) where
  row_tellable : (p : Parameter) → by_row t n j ≡ Some p → Tellable t p
  row_tellable p e =
      let o = by_row-told t n j p e in
      let i = module_in t s n p.owner o.among in
      let right = module_label t n p.owner i in
      record {
        room = module_room t n p.owner i;
        labelled = (label_right_lem (label t p.owner) right).least;
        short = λ u x k f. reply_within t p u x right (module_known t n p.owner i) (rw (← o.number) at o.own) k f;
      }

  row_fitting : (p : Parameter) → by_row t n j ≡ Some p → RowFits p.row
  row_fitting p e =
      let o = by_row-told t n j p e in
      let own = own_row p.owner j p o.own in
      rw own.row (row_of-fits p.owner.layout j (module_known t n p.owner (module_in t s n p.owner o.among)) own.inside)

  row_within : (p : Parameter) → by_row t n j ≡ Some p → p.owner.first + p.number < length vs
  row_within p e = rw (place_is p) at (value_inside (room_of t) vs (place p) p v (by_row-told t n j p e).listed)

  pub row_found : (f : Option Parameter) → f ≡ by_row t n j → FoundIn t vs f
  row_found f e = record {
    fits = λ p q. row_fitting p (sym e ∙ q);
    within = λ p q. row_within p (sym e ∙ q);
    tellable = λ p q. row_tellable p (sym e ∙ q);
  }

module _ (t : List ℕ) (vs : List ℤ) (buffer : List ℕ) (n j : ℕ) (x : ℤ) (a : ℕ) (e : a ≡ table_number t) where
  pub change_table : (a ≡ 0 → ⊥) → Changes (room_of t) vs buffer n j x (record { sent = 0; number = a }) vs buffer
  unfolding panel panel_number
  change_table h =
      changes (rw (first_stops (table_number t) _ (λ z. h (e ∙ z)), ← e) (tells-refused t vs buffer (by_row t n j) x a h))

  module _ (z : a ≡ 0) (b : ℕ) (k : b ≡ values_number (room_of t) vs) where
    pub change_values : (b ≡ 0 → ⊥) → Changes (room_of t) vs buffer n j x (record { sent = 0; number = b }) vs buffer
    unfolding panel panel_number
    change_values h =
        changes
        (rw (first-passed (table_number t) _ (sym e ∙ z), first_stops (values_number (room_of t) vs) _ (λ y. h (k ∙ y)), ← k)
        (tells-refused t vs buffer (by_row t n j) x b h))

    module _ (y : b ≡ 0) (f : Option Parameter) (q : f ≡ by_row t n j) where
      pub change_found : FoundIn t vs f
      change_found = row_found t vs (table_held t a e z) (passed_values (room_of t) vs (sym k ∙ y)) n j f q

      made : (c : Changed) (vs' : List ℤ) (buffer' : List ℕ) → ChangesFound (room_of t) vs buffer f x c vs' buffer' → Changes (room_of t) vs buffer n j x c vs' buffer'
      unfolding panel panel_number
      made c vs' buffer' (changes-found told) =
          changes (rw (first-passed (table_number t) _ (sym e ∙ z), first-passed (values_number (room_of t) vs) _ (sym k ∙ y), ← q) told)

      pub change_made : (c : Changed) (vs' : List ℤ) (buffer' : List ℕ) → SFits w64 x → ChangesFound (room_of t) vs buffer f (bits x) c vs' buffer'
          → Changes (room_of t) vs buffer n j x c vs' buffer'
      change_made c vs' buffer' g h = made c vs' buffer' (rw (to_z-of_z g) at h)

pub ruleset calling = (refusal-some, table_held, change_table, change_values, change_found, change_made)
