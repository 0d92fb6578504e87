-- Rules for the code that compares a restore call with what it must tell.
use Rattle.std.specs.Prelude.{◌≡◌, Bool, false, List, ℕ, ◌<◌, length, take}
use Rattle.std.proofs.Math.Path.{refl}
use Rattle.std.proofs.Common.{sym, ap, arith, length-take}
use borrow.Author.Tests.{eq-eqb, ne_eqb}
use Rattle.text.specs.Cut.Part.{part-counts}
use Rattle.room.specs.Label.{same}
use Rattle.room.specs.Label.Match.{same_not}
use Rattle.restore.specs.Demand.{Restores}
use Rattle.restore.proofs.Laws.Demand.Laws.{parts_by}
use Rattle.restore.specs.Restored.{Restored}
use Rattle.wish.specs.Target.{Wish}
use Rattle.worked.specs.Restored.{Compares, compares, list_right, told}

module _ (r : Restored) (buffer : List ℕ) (number lines : ℕ) (list : List ℕ) where
  pub wrong_number : (r.number ≡ number → ⊥) → false ≡ list_right (told r buffer) number lines list
  unfolding list_right told
  wrong_number n = rw (ne_eqb r.number number n) refl

  module _ (e : r.number ≡ number) where
    pub wrong_lines : (r.lines ≡ lines → ⊥) → false ≡ list_right (told r buffer) number lines list
    unfolding list_right told
    wrong_lines n = rw (eq-eqb r.number number e, ne_eqb r.lines lines n) refl

    module _ (f : r.lines ≡ lines) where
      pub wrong_bytes : (r.bytes ≡ length list → ⊥) → false ≡ list_right (told r buffer) number lines list
      unfolding list_right told
      wrong_bytes n = rw (eq-eqb r.number number e, eq-eqb r.lines lines f, ne_eqb r.bytes (length list) n) refl

      module _ (g : r.bytes ≡ length list) where
        -- what is left to compare is the list's bytes
        pub list-compared : (b : Bool) → b ≡ same (take r.bytes buffer) list → b ≡ list_right (told r buffer) number lines list
        unfolding list_right told
        list-compared b s = rw (eq-eqb r.number number e, eq-eqb r.lines lines f, eq-eqb r.bytes (length list) g) s

        pub wrong_room : length buffer < r.bytes → false ≡ list_right (told r buffer) number lines list
        wrong_room l =
            let short : take r.bytes buffer ≡ list → ⊥ = λ q. omega (arith, ap length q, length-take r.bytes buffer) in
            list-compared false (sym (same_not (take r.bytes buffer) list short))

pub ruleset telling = (part-counts, wrong_number, wrong_lines, wrong_bytes, wrong_room, list-compared)

-- the call, and the comparison of what it told
pub call-compared : (w : Wish) (buffer : List ℕ) (number lines : ℕ) (list : List ℕ) (r : Restored) (buffer' : List ℕ) (b : Bool)
    → Restores w buffer r buffer' → b ≡ list_right (told r buffer') number lines list → Compares w buffer number lines list b buffer'
unfolding told
call-compared w buffer number lines list r buffer' b h e = compares (rw (parts_by h) at e) (ap (λ a. a.buffer) (parts_by h))
