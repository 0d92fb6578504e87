-- Rules for the code of a change: one for each way to return.
use Rattle.std.specs.Prelude.{◌≡◌, Bool, true, false, cond, not, ◌&&◌, List, ℕ, ◌+◌, ◌<◌, ◌≤◌, ℤ, pos, length, get_or, set, Option, Some, None}
use Rattle.std.proofs.Math.Path.{refl}
use Rattle.std.proofs.Common.{sym, ◌∙◌, ap, add-zero, arith, eq-eqb, ne_eqb, to_z-of_z, SFits, of_z}
use Rattle.std.proofs.Math.Bool.{and-false}
use Rattle.std.proofs.lemmas.Bool.{not-false, not-true}
use Rattle.std.specs.Int.{w64}
use Rattle.text.specs.Written.{Wrote}
use Rattle.text.specs.Written.Laws.{wrote_nothing}
use Rattle.catalogue.specs.Groups.{PartIn}
use Rattle.catalogue.specs.Row.{RowFits, permitted}
use Rattle.catalogue.specs.Row.Laws.{bits}
use Rattle.catalogue.specs.declared.groups.Part.{Part}
use Rattle.catalogue.specs.declared.groups.Part.TheVariants.{Whole}
use Rattle.room.specs.Label.{label}
use Rattle.room.specs.Label.Length.{label_byte_lem}
use Rattle.values.specs.Parameters.{place}
use Rattle.values.specs.Parameters.First.{place_is}
use Rattle.values.specs.Room.{Room}
use Rattle.values.specs.Room.Laws.{row_in-own}
use Rattle.values.specs.Values.Compared.{bits-differ, bits-equal}
use Rattle.values.specs.declared.parameter.Parameter.{Parameter}
use Rattle.spelling.specs.Reply.{get_reply}
use Rattle.spelling.specs.Say.Laws.{output_in, whole_in}
use Rattle.panel.specs.Panel.{change_number, notice, notified, row_number}

-- ---- the number of a change: the code judges by the own row of the parameter

unfoldable pub own_number : Option Parameter → ℤ → ℕ
own_number (Some p) x = row_number p.row x
own_number None x = 9

pub own_number_lem : (r : Room) (f : Option Parameter) (x : ℤ) → own_number f x ≡ change_number r f x
unfolding own_number change_number
own_number_lem r (Some p) x = rw (row_in-own r p) refl
own_number_lem r None x = refl

-- the arithmetic of the row that was found stays within 64 bits
pub record FoundFits (f : Option Parameter) : Type 0 where
  pub fits : (p : Parameter) → f ≡ Some p → RowFits p.row

pub found-row_fits : (f : Option Parameter) (p : Parameter) → FoundFits f → f ≡ Some p → RowFits p.row
found-row_fits f p h e = h.fits p e

nine_first : (a b : Bool) → not a ≡ true → ◌≡◌ {A = ℕ} 9 (cond (a && b) 0 9)
nine_first a b e = rw (not-true a e) refl

none_or_nine : (a b c : Bool) → not a ≡ false → b ≡ c → ◌≡◌ {A = ℕ} (cond c 0 9) (cond (a && b) 0 9)
none_or_nine a b c e h = rw (not-false a e, h) refl

module _ (f : Option Parameter) (x : ℤ) where
  pub number-nothing : f ≡ None → 9 ≡ own_number f x
  unfolding own_number
  number-nothing e = rw e refl

  module _ (p : Parameter) (e : f ≡ Some p) where
    by_row_lem : cond (p.row.settable && permitted p.row x) 0 9 ≡ own_number f x
    unfolding own_number row_number
    by_row_lem = rw e refl

    pub number-read_only : not p.row.settable ≡ true → 9 ≡ own_number f x
    number-read_only s = nine_first p.row.settable (permitted p.row x) s ∙ by_row_lem

    module _ (s : not p.row.settable ≡ false) (fit : SFits w64 x) (b : Bool) (k : b ≡ permitted p.row (bits x)) where
      judged : permitted p.row x ≡ b
      judged = sym (rw (to_z-of_z fit) at k)

      pub number-allowed : b ≡ true → 0 ≡ own_number f x
      number-allowed h = none_or_nine p.row.settable (permitted p.row x) true s (judged ∙ h) ∙ by_row_lem

      pub number-forbidden : b ≡ false → 9 ≡ own_number f x
      number-forbidden h = none_or_nine p.row.settable (permitted p.row x) false s (judged ∙ h) ∙ by_row_lem

pub ruleset numbering = (found-row_fits, number-nothing, number-read_only, number-allowed, number-forbidden)

-- ---- one value stored

pub value_before : (vs : List ℤ) (p : Parameter) → SFits w64 (get_or vs (p.owner.first + p.number) (pos 0))
    → bits (get_or vs (p.owner.first + p.number) (pos 0)) ≡ get_or vs (place p) (pos 0)
value_before vs p f = rw (place_is p) (to_z-of_z f)

pub value_stored : (vs : List ℤ) (p : Parameter) (x : ℤ) → SFits w64 x → set vs (p.owner.first + p.number) (bits x) ≡ set vs (place p) x
value_stored vs p x f = rw (place_is p) (ap (set vs (p.owner.first + p.number)) (to_z-of_z f))

-- the row's own number is a place too, so that a value stored there is refused for the list
pub number-within : (vs : List ℤ) (p : Parameter) → p.owner.first + p.number < length vs → p.number < length vs
number-within vs p h = omega arith

pub ruleset storing = (value_before, value_stored, number-within)

-- ---- the notice

-- the module's record lies in the table, its label has a byte, and a reply is short whatever it tells
pub record Tellable (t : List ℕ) (p : Parameter) : Type 0 where
  pub room : p.owner.place + 33 ≤ length t
  pub labelled : 1 ≤ length (label t p.owner)
  pub short : (u : Part) (v : ℤ) → PartIn u → SFits w64 v → length (get_reply t p u v) ≤ 64

module _ (t : List ℕ) (p : Parameter) (h : Tellable t p) where
  marked : get_or (label t p.owner) 0 0 ≡ get_or t (p.owner.place + 1) 0
  marked = rw (← add-zero (p.owner.place + 1)) (label_byte_lem t p.owner 0 h.labelled)

  -- whatever value and part are told, so that the wrong ones are refused for their bytes
  pub notice-room : (u : Part) (v : ℤ) (buffer : List ℕ) → PartIn u → SFits w64 v → 64 ≤ length buffer → length (get_reply t p u (bits v)) ≤ length buffer
  notice-room u v buffer k f l = rw (to_z-of_z f) (omega (arith, h.short u v k f))

  module _ (v x : ℤ) (buffer : List ℕ) where
    pub notice-plain : (get_or t (p.owner.place + 1) 0 ≡ 0x23 → ⊥) → Wrote buffer 0 (notice t p v x) 0 buffer
    unfolding notice notified
    notice-plain n = rw (ne_eqb (get_or (label t p.owner) 0 0) 0x23 (λ e. n (sym marked ∙ e))) (wrote_nothing buffer 0)

    pub notice-told : (r : ℕ) (buffer' : List ℕ) → (of_z w64 v ≡ of_z w64 x → ⊥) → get_or t (p.owner.place + 1) 0 ≡ 0x23 → SFits w64 x
        → Wrote buffer 0 (get_reply t p Whole (bits x)) r buffer' → Wrote buffer 0 (notice t p v x) r buffer'
    unfolding notice notified
    notice-told r buffer' d e f w = rw (eq-eqb (get_or (label t p.owner) 0 0) 0x23 (marked ∙ e), bits-differ v x d) (rw (to_z-of_z f) at w)

pub notice-same : (t : List ℕ) (p : Parameter) (v x : ℤ) (buffer : List ℕ) → SFits w64 v → SFits w64 x → of_z w64 v ≡ of_z w64 x → Wrote buffer 0 (notice t p v x) 0 buffer
unfolding notice
notice-same t p v x buffer f g e = rw (bits-equal v x f g e, and-false (notified t p.owner)) (wrote_nothing buffer 0)

pub ruleset notifying = (notice-room, notice-plain, notice-told, notice-same, whole_in, output_in)
