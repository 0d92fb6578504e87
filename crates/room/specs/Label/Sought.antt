-- The search for the module that alone bears a text.
use Rattle.std.specs.Prelude.{◌≡◌, refl, Bool, true, false, not, List, [], ◌∷◌, ℕ, ◌+◌, ◌-◌, ◌≤◌, ◌<◌, eqb, length, get_or, take, drop, Option, Some, None}
use Rattle.std.proofs.Math.Path.{sym}
use Rattle.std.proofs.Common.{◌∙◌, arith, eqb-true, drop_of_length-le, length-take}
use Rattle.std.proofs.lemmas.Bool.{eqb-false, not-true, not-false}
use Rattle.text.specs.Cut.{before}
use Rattle.catalogue.specs.Catalogue.{rows_of}
use Rattle.catalogue.specs.declared.layout.Layout.{Layout}
use Rattle.room.specs.Table.{sound}
use Rattle.record.specs.Body.{body_length}
use Rattle.record.specs.Layout.{layout_at}
use Rattle.record.specs.Field.{label_right}
use Rattle.room.specs.Table.Modules.{record_label, record_room}
use Rattle.room.specs.Table.Walk.{Walk, modules_at, modules-end, modules-next, modules-start, walk_induction, walk_next, walk_start}
use Rattle.room.specs.Label.{bearer, bearers_in, exactly_one, label, same}
use Rattle.record.specs.Field.Bytes.{label_right_lem}
use Rattle.room.specs.Label.Match.{Compared, compared_next, differs, longer, matches, same_not, same_refl}
use Rattle.room.specs.declared.table.Module.{Module}

-- ---- the bearers

bears_not : (t text : List ℕ) (m : Module) (ms : List Module) → (label t m ≡ text → ⊥) → bearers_in t text (m ∷ ms) ≡ bearers_in t text ms
unfolding bearers_in
bears_not t text m ms n = rw (same_not (label t m) text n)

bears : (t text : List ℕ) (m : Module) (ms : List Module) → label t m ≡ text → bearers_in t text (m ∷ ms) ≡ m ∷ bearers_in t text ms
unfolding bearers_in
bears t text m ms e = let s : same (label t m) text ≡ true = rw e (same_refl text) in rw s

-- the answer, where one bearer was found before or none
unfoldable pub counting : Option Module → List Module → Option Module
counting None ms = exactly_one ms
counting (Some m) ms = exactly_one (m ∷ ms)

counting-none : (found : Option Module) → counting found [] ≡ found
unfolding counting exactly_one
counting-none None = refl
counting-none (Some m) = refl

-- a search that has passed the records before a place
pub record Sought (t text : List ℕ) (found : Option Module) (number place first : ℕ) : Type 0 where
  pub walk : Walk t number place first
  pub right : label_right text ≡ true
  pub short : length text ≤ 32
  pub rest : bearer t text ≡ counting found (bearers_in t text (modules_at t number place first))

pub sought_start : (t text : List ℕ) (r : Bool) → sound t ≡ true → r ≡ label_right text → not r ≡ false → Sought t text None 0 0 0
unfolding bearer counting
sought_start t text r s e n =
    let right : label_right text ≡ true = sym e ∙ not-false r n in
    record { walk = walk_start t s; right = right; short = (label_right_lem text right).most; rest = rw (modules-start t) }

compared_start : (t text : List ℕ) (found : Option Module) (number place first : ℕ) → Sought t text found number place first → place < length t
    → Compared t text (place + 1) (length text)
compared_start t text found number place first h l =
    let p = take (length text) (drop (place + 1) t) in
    let few : length p ≤ length text = omega (arith, length-take (length text) (drop (place + 1) t)) in
    let all : length text ≤ length text = omega arith in
    record {
      room = record_room t number place first h.walk l;
      within = omega arith;
      short = h.short;
      bytes = drop_of_length-le p few ∙ sym (drop_of_length-le text all);
    }

-- while bytes are left to compare
pub record Comparing (t text : List ℕ) (label i : ℕ) : Type 0 where
  pub compared : Compared t text label i
  pub left : 0 < i

pub comparing_start : (t text : List ℕ) (found : Option Module) (number place first : ℕ) → Sought t text found number place first → place < length t
    → Comparing t text (place + 1) (length text)
comparing_start t text found number place first h l =
    record { compared = compared_start t text found number place first h l; left = (label_right_lem text h.right).least }

one_less : (t text : List ℕ) (label i : ℕ) → Comparing t text label i → get_or t (label + (i - 1)) 0 ≡ get_or text (i - 1) 0 → Compared t text label (i - 1)
one_less t text label i h e = compared_next t text label i h.compared h.left e

pub comparing_last : (t text : List ℕ) (label i : ℕ) → Comparing t text label i → get_or t (label + (i - 1)) 0 ≡ get_or text (i - 1) 0 → i - 1 ≡ 0
    → Compared t text label 0
comparing_last t text label i h e z = rw z at (one_less t text label i h e)

pub comparing_next : (t text : List ℕ) (label i : ℕ) → Comparing t text label i → get_or t (label + (i - 1)) 0 ≡ get_or text (i - 1) 0 → (i - 1 ≡ 0 → ⊥)
    → Comparing t text label (i - 1)
comparing_next t text label i h e n = record { compared = one_less t text label i h e; left = omega (arith, n) }

pub sought_end : (t text : List ℕ) (found : Option Module) (number place first : ℕ) → Sought t text found number place first → length t ≤ place
    → found ≡ bearer t text
unfolding bearers_in
sought_end t text found number place first h l = sym (h.rest ∙ rw (modules-end t number place first l) (counting-none found))

-- ---- one record more

-- the label at a place is not longer than i
pub record Ended (t : List ℕ) (label i : ℕ) : Type 0 where
  pub zero_byte : i < 32 → get_or t (label + i) 0 ≡ 0

pub ended-full : (t : List ℕ) (label i : ℕ) → 32 ≤ i → Ended t label i
ended-full t label i l = record { zero_byte = λ s. absurd (omega arith) }

pub ended-zero : (t : List ℕ) (label i : ℕ) → not (eqb (get_or t (label + i) 0) 0) ≡ false → Ended t label i
ended-zero t label i e = record { zero_byte = λ s. eqb-true (get_or t (label + i) 0) 0 (not-false _ e) }

module _ (t text : List ℕ) (found : Option Module) (number place first size rows : ℕ) (h : Sought t text found number place first) (l : place < length t)
    (s : size ≡ body_length (get_or t place 0)) (n : rows ≡ length (rows_of (layout_at t place))) where
  abbrev here : Module
  here = record { number = number; place = place; layout = layout_at t place; first = first }

  sought_pass : (before 0 (take 32 (drop (place + 1) t)) ≡ text → ⊥) → Sought t text found (number + 1) (place + 1 + size) (first + rows)
  unfolding label
  sought_pass d =
      record {
        walk = walk_next t number place first h.walk l size rows s n;
        right = h.right;
        short = h.short;
        rest = h.rest ∙ rw (modules-next t number place first h.walk l size rows s n, bears_not t text here _ d);
      }

  pub sought_differs : (i : ℕ) → Comparing t text (place + 1) i → (get_or t (place + 1 + (i - 1)) 0 ≡ get_or text (i - 1) 0 → ⊥)
      → Sought t text found (number + 1) (place + 1 + size) (first + rows)
  sought_differs i c d = sought_pass (differs t text (place + 1) (i - 1) h.short (omega (arith, c.left, c.compared.within)) d)

  pub sought_longer : (k : ℕ) → Compared t text (place + 1) 0 → length text < k → k ≤ 32 → not (eqb (get_or t (place + 1 + length text) 0) 0) ≡ true
      → Sought t text found (number + 1) (place + 1 + size) (first + rows)
  sought_longer k c s m d =
      sought_pass (longer t text (place + 1) c.room (omega arith) (eqb-false (get_or t (place + 1 + length text) 0) 0 (not-true _ d)))

  matched : Compared t text (place + 1) 0 → Ended t (place + 1) (length text)
      → bearer t text ≡ counting found (here ∷ bearers_in t text (modules_at t (number + 1) (place + 1 + size) (first + rows)))
  unfolding label
  matched c z =
      let e : label t here ≡ text = matches t text (place + 1) c h.right z.zero_byte in
      h.rest ∙ rw (modules-next t number place first h.walk l size rows s n, bears t text here _ e)

  pub sought_first : (m : Layout) → m ≡ layout_at t place → Compared t text (place + 1) 0 → Ended t (place + 1) (length text) → found ≡ None
      → Sought t text (Some (record { number = number; place = place; layout = m; first = first }))
      (number + 1) (place + 1 + size) (first + rows)
  unfolding counting
  sought_first m q c z f =
      record {
        walk = walk_next t number place first h.walk l size rows s n;
        right = h.right;
        short = h.short;
        rest = rw q (rw f at (matched c z));
      }

  second : (m : Module) → Compared t text (place + 1) 0 → Ended t (place + 1) (length text) → found ≡ Some m → None ≡ bearer t text
  unfolding counting exactly_one
  second m c z f = sym (rw f at (matched c z))

pub sought_second : (t text : List ℕ) (found : Option Module) (number place first : ℕ) (m : Module) → Sought t text found number place first → place < length t
    → Compared t text (place + 1) 0 → Ended t (place + 1) (length text) → found ≡ Some m → None ≡ bearer t text
sought_second t text found number place first m h l =
    second t text found number place first (body_length (get_or t place 0)) (length (rows_of (layout_at t place))) h l refl refl m

-- ---- a text that is no label

nobody : (t text : List ℕ) → bearers_in t text [] ≡ []
unfolding bearers_in
nobody t text = refl

unlike : (t text : List ℕ) (number place first : ℕ) → Walk t number place first → place < length t → label_right text ≡ false
    → label t (record { number = number; place = place; layout = layout_at t place; first = first }) ≡ text → ⊥
unfolding label
unlike t text number place first w l e q =
    let r : label_right text ≡ true = rw q at (record_label t number place first w l) in
    let z : ◌≡◌ {A = ℕ} 0 1 = cc in
    omega arith

no_bearer : (t text : List ℕ) → label_right text ≡ false → (number place first : ℕ) → Walk t number place first
    → bearers_in t text (modules_at t number place first) ≡ []
no_bearer t text e = walk_induction t (λ number place first. bearers_in t text (modules_at t number place first) ≡ []) last more
  where
    last : (number place first : ℕ) → length t ≤ place → bearers_in t text (modules_at t number place first) ≡ []
    last number place first l = rw (modules-end t number place first l) (nobody t text)

    more : (number place first : ℕ) → Walk t number place first → place < length t
        → bearers_in t text (modules_at t (number + 1) (place + 1 + body_length (get_or t place 0)) (first + length (rows_of (layout_at t place)))) ≡ []
        → bearers_in t text (modules_at t number place first) ≡ []
    more number place first w l next =
        rw (modules-next t number place first w l (body_length (get_or t place 0)) (length (rows_of (layout_at t place))) refl refl)
        (bears_not t text _ _ (unlike t text number place first w l e) ∙ next)

pub sought_none : (t text : List ℕ) (r : Bool) → sound t ≡ true → r ≡ label_right text → not r ≡ true → None ≡ bearer t text
unfolding bearer exactly_one
sought_none t text r s e n = rw (modules-start t, no_bearer t text (sym e ∙ not-true r n) 0 0 0 (walk_start t s))

pub ruleset comparing = (comparing_start, comparing_last, comparing_next, ended-full, ended-zero)

pub ruleset seeking = (comparing, sought_none, sought_start, sought_end, sought_differs, sought_longer, sought_first, sought_second)
