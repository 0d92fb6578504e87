-- What a change tells and leaves: a refused one, one that is told and one that is not; one value alone changes, and permitted values stay permitted.
use Rattle.std.specs.Prelude.{◌≡◌, Bool, false, ◌&&◌, List, ℕ, zero, suc, ◌<◌, ◌≤◌, ℤ, pos, length, get_or, set, Option, Some, None}
use Rattle.std.proofs.Math.Path.{refl, ap}
use Rattle.std.proofs.Common.{sym, ◌∙◌, arith, length-set, get_or-set_other, get_or-set_same}
use Rattle.std.proofs.Math.Bool.{true, and-false}
use Rattle.std.proofs.Math.Seq.{set-get_or}
use Rattle.std.proofs.lemmas.List.Edits.{sets}
use Rattle.text.specs.Every.Laws.{both_left, both_right}
use Rattle.catalogue.specs.Row.{permitted}
use Rattle.catalogue.specs.declared.groups.Part.TheVariants.{Whole}
use Rattle.room.specs.Refusal.Laws.{all, all_passed, first_by, passed_test, passes, test_passed}
use Rattle.room.specs.Table.{sound}
use Rattle.room.specs.Table.Number.{passed_table, table_passed}
use Rattle.values.specs.Parameters.{by_row, place}
use Rattle.values.specs.Parameters.ByRow.{by_row-told}
use Rattle.values.specs.Room.{Room, row_in}
use Rattle.values.specs.Room.Laws.{row_in-settable}
use Rattle.values.specs.Values.{equal, values_sound}
use Rattle.values.specs.Values.Laws.{equal-refl, equal-true, set_sound, value_inside}
use Rattle.values.specs.Values.Number.{passed_values, values_passed}
use Rattle.values.specs.declared.parameter.Parameter.{Parameter}
use Rattle.spelling.specs.Reply.{get_reply}
use Rattle.serial_port.specs.Refusal.{reply_limit}
use Rattle.serial_port.specs.Refusal.Number.{passed_reply, reply_passed}
use Rattle.panel.specs.Panel.{Changes, changes, change_number, changed, notice, notified, panel, panel_number, refused, row_number, tell, tells, Told}
use Rattle.panel.specs.Panel.{Changed}

-- ---- the promise

module _ {r : Room} {vs : List ℤ} {buffer : List ℕ} {owner row : ℕ} {x : ℤ} {c : Changed} {vs' : List ℤ} {buffer' : List ℕ} where
  pub told-by : Changes r vs buffer owner row x c vs' buffer' → tells c vs' buffer' ≡ panel r vs buffer owner row x
  told-by (changes told) = told

  -- a field of what a call that was made told, or whatever else is made of that
  pub told-field : Changes r vs buffer owner row x c vs' buffer' → {A : Type 0} (f : Told → A)
      → f (record { number = c.number; sent = c.sent; values = vs'; buffer = buffer' }) ≡ f (panel r vs buffer owner row x)
  unfolding tells
  told-field h f = ap f (told-by h)

-- ---- the number, and a refusal

tell-number : (t : List ℕ) (n : ℕ) (vs : List ℤ) (buffer : List ℕ) (f : Option Parameter) (x : ℤ) → (tell t n vs buffer f x).number ≡ n
unfolding tell changed refused
tell-number t zero vs buffer (Some p) x = refl
tell-number t zero vs buffer None x = refl
tell-number t (suc n) vs buffer f x = refl

module _ (r : Room) (vs : List ℤ) (buffer : List ℕ) (owner row : ℕ) (x : ℤ) where
  pub panel_number_lem : (panel r vs buffer owner row x).number ≡ panel_number r vs (length buffer) owner row x
  unfolding panel
  panel_number_lem = tell-number r.table (panel_number r vs (length buffer) owner row x) vs buffer (by_row r.table owner row) x

  -- a refusal counts zero and changes nothing
  pub refused-told : (n : ℕ) → panel_number r vs (length buffer) owner row x ≡ suc n
      → panel r vs buffer owner row x ≡ record { number = suc n; sent = 0; values = vs; buffer = buffer }
  unfolding panel tell refused
  refused-told n e = rw e refl

-- ---- an accepted change

-- the row may be set, and the room permits the value
allowed : (r : Room) (p : Parameter) (x : ℤ) → change_number r (Some p) x ≡ 0 → (p.row.settable ≡ true) × (permitted (row_in r p) x ≡ true)
unfolding change_number row_number
allowed r p x e =
    let b = passed_test ((row_in r p).settable && permitted (row_in r p) x) 8 e in (
      sym (row_in-settable r p) ∙ both_left (row_in r p).settable (permitted (row_in r p) x) b,
      both_right (row_in r p).settable (permitted (row_in r p) x) b,
    )

pub allows : (r : Room) (p : Parameter) (x : ℤ) → p.row.settable ≡ true → permitted (row_in r p) x ≡ true → change_number r (Some p) x ≡ 0
unfolding change_number row_number
allows r p x s h = test_passed ((row_in r p).settable && permitted (row_in r p) x) 9 (both (row_in r p).settable (permitted (row_in r p) x) (row_in-settable r p ∙ s) h)
  where
    both : (a b : Bool) → a ≡ true → b ≡ true → (a && b) ≡ true
    both a b e f = rw (e, f) refl

-- no refusal applies: the row is there, may be set and permits the value
pub record Accepted (r : Room) (vs : List ℤ) (reply_room owner row : ℕ) (x : ℤ) : Type 0 where
  pub table : sound r.table ≡ true
  pub right : values_sound r vs ≡ true
  pub room : reply_limit ≤ reply_room
  pub parameter : Parameter
  pub found : by_row r.table owner row ≡ Some parameter
  pub settable : parameter.row.settable ≡ true
  pub permits : permitted (row_in r parameter) x ≡ true

module _ (r : Room) (vs : List ℤ) (reply_room owner row : ℕ) (x : ℤ) where
  pub accepts : panel_number r vs reply_room owner row x ≡ 0 → Accepted r vs reply_room owner row x
  unfolding panel_number
  accepts e =
      let a = all_passed _ _ e in
      let b = all_passed _ _ a.1 in
      let c = all_passed _ _ b.1 in
      let d = all_passed _ _ c.1 in
      go (by_row r.table owner row) refl (passed_table r.table a.0) (passed_values r vs b.0) (passed_reply reply_limit reply_room c.0) d.0
    where
      go : (f : Option Parameter) → by_row r.table owner row ≡ f → sound r.table ≡ true → values_sound r vs ≡ true → reply_limit ≤ reply_room → change_number r f x ≡ 0
          → Accepted r vs reply_room owner row x
      go (Some p) q s v l n =
          let h = allowed r p x n in
          record { table = s; right = v; room = l; parameter = p; found = q; settable = h.0; permits = h.1 }
      go None q s v l n = absurd (unfold change_number in omega arith)

  pub accepted : Accepted r vs reply_room owner row x → panel_number r vs reply_room owner row x ≡ 0
  unfolding panel_number
  accepted a =
      first_by
      (passes (table_passed r.table a.table)
      (passes (values_passed r vs a.right)
      (passes (reply_passed reply_limit reply_room a.room)
      (passes (ap (λ (f : Option Parameter). change_number r f x) a.found ∙ allows r a.parameter x a.settable a.permits) all))))

module _ (r : Room) (vs : List ℤ) (buffer : List ℕ) (owner row : ℕ) (x : ℤ) (a : Accepted r vs (length buffer) owner row x) where
  abbrev p : Parameter
  p = a.parameter

  listed_within : place a.parameter < length vs
  listed_within = value_inside r vs (place p) p a.right (by_row-told r.table owner row p a.found).listed

  -- one value is set, and the notice stands first in its buffer
  pub accepted_told : panel r vs buffer owner row x
      ≡ record {
        number = 0;
        sent = length (notice r.table a.parameter (get_or vs (place a.parameter) (pos 0)) x);
        values = set vs (place a.parameter) x;
        buffer = sets buffer 0 (notice r.table a.parameter (get_or vs (place a.parameter) (pos 0)) x);
      }
  unfolding panel tell changed
  accepted_told = rw (accepted r vs (length buffer) owner row x a, a.found) refl

  -- it has the value afterwards, and every other is as it was
  pub value_set : get_or (panel r vs buffer owner row x).values (place a.parameter) (pos 0) ≡ x
  value_set = rw accepted_told (get_or-set_same vs (place p) x (pos 0) listed_within)

  pub others_stay : (k : ℕ) → (k ≡ place a.parameter → ⊥) → get_or (panel r vs buffer owner row x).values k (pos 0) ≡ get_or vs k (pos 0)
  others_stay k n = rw accepted_told (get_or-set_other vs (place p) k x (pos 0) n)

  pub values_as_many : length (panel r vs buffer owner row x).values ≡ length vs
  values_as_many = rw accepted_told (length-set vs (place p) x)

  -- a module whose label does not begin with `#`: nothing is told, and no byte of the buffer changes
  pub plain-silent : notified r.table a.parameter.owner ≡ false
      → panel r vs buffer owner row x ≡ record { number = 0; sent = 0; values = set vs (place a.parameter) x; buffer = buffer }
  unfolding notice
  plain-silent n = rw (accepted_told, n) refl

  -- the present value: nothing is told, and nothing changes
  pub same-silent : get_or vs (place a.parameter) (pos 0) ≡ x → panel r vs buffer owner row x ≡ record { number = 0; sent = 0; values = vs; buffer = buffer }
  unfolding notice
  same-silent e = rw (accepted_told, ← e, equal-refl (get_or vs (place p) (pos 0)), and-false (notified r.table p.owner), set-get_or vs (place p) (pos 0)) refl

  -- a change of a module whose label begins with `#`, whoever else bears it: the reply to its get line is told
  module _ (n : notified r.table a.parameter.owner ≡ true) (d : get_or vs (place a.parameter) (pos 0) ≡ x → ⊥) where
    differs : equal (get_or vs (place a.parameter) (pos 0)) x ≡ false
    differs = go (equal (get_or vs (place p) (pos 0)) x) refl
      where
        go : (b : Bool) → equal (get_or vs (place p) (pos 0)) x ≡ b → b ≡ false
        go true e = absurd (d (equal-true (get_or vs (place p) (pos 0)) x e))
        go false e = refl

    pub change_told : panel r vs buffer owner row x
        ≡ record {
          number = 0;
          sent = length (get_reply r.table a.parameter Whole x);
          values = set vs (place a.parameter) x;
          buffer = sets buffer 0 (get_reply r.table a.parameter Whole x);
        }
    unfolding notice
    change_told = rw (accepted_told, n, differs) refl

-- permitted values stay permitted, whether a call is accepted or refused
pub panel-stays_sound : (r : Room) (vs : List ℤ) (buffer : List ℕ) (owner row : ℕ) (x : ℤ) → values_sound r vs ≡ true → values_sound r (panel r vs buffer owner row x).values ≡ true
panel-stays_sound r vs buffer owner row x v = go (panel_number r vs (length buffer) owner row x) refl
  where
    go : (n : ℕ) → panel_number r vs (length buffer) owner row x ≡ n → values_sound r (panel r vs buffer owner row x).values ≡ true
    go zero e =
        let a = accepts r vs (length buffer) owner row x e in
        let l = (by_row-told r.table owner row a.parameter a.found).listed in
        rw (accepted_told r vs buffer owner row x a) (set_sound r vs (place a.parameter) a.parameter x l a.permits v)
    go (suc n) e = rw (refused-told r vs buffer owner row x n e) v
