-- Rules for testing the wanted values, module by module.
use Rattle.std.specs.Prelude.{◌≡◌, refl, Bool, true, false, not, ◌||◌, List, ℕ, ◌+◌, ◌-◌, ◌≤◌, ◌<◌, eqb, ℤ, length, get_or, take, drop}
use Rattle.std.proofs.Common.{sym, ◌∙◌, arith, eq-eqb, eqb-true, ne_eqb, length-drop, length-take}
use Rattle.std.proofs.lemmas.Bool.{not-false, not-true}
use Rattle.catalogue.specs.Catalogue.{rows_of}
use Rattle.catalogue.specs.declared.layout.Layout.{Layout}
use Rattle.catalogue.specs.Row.{permitted}
use Rattle.room.specs.Table.{modules, sound}
use Rattle.record.specs.Body.{body_length}
use Rattle.record.specs.Layout.{layout_at}
use Rattle.room.specs.Table.Steps.{Step, at_module, at_next, step_first}
use Rattle.room.specs.Table.Walk.{walk_numbered}
use Rattle.values.specs.Parameters.{parameters, parameters_of}
use Rattle.values.specs.Parameters.Laws.{length-parameters_of}
use Rattle.values.specs.Parameters.Owned.{owned}
use Rattle.values.specs.Parameters.Walk.{module_here}
use Rattle.values.specs.Permit.{rows_permit}
use Rattle.values.specs.Room.{Room, row_in}
use Rattle.values.specs.Values.Each.{Each, Tests, each_all, each_next, each_short, each_start, each_wrong}
use Rattle.values.specs.Values.Fitting.{module_permit}
use Rattle.values.specs.Values.Laws.{each_tests}
use Rattle.values.specs.Values.Tested.{tested_alike}
use Rattle.room.specs.declared.table.Module.{Module}
use Rattle.text.specs.Every.Laws.{both_left, both_right}
use Rattle.text.specs.Every.{every}
use Rattle.text.specs.Cut.Part.{part_left}
use Rattle.wish.specs.Target.{at_most_one, chosen, chosen_permitted, selection_right, wanted_right}
use Rattle.wish.specs.Target.Choice.{own-choice}

-- each entry of a chosen module is tested by the row by which it is judged
pub chosen-tests : (r : Room) (selection : List ℕ) → Tests (chosen_permitted r selection) (λ p w. not (chosen selection p) || permitted (row_in r p) w)
unfolding chosen_permitted
chosen-tests r selection = record { none = λ ws. refl; one = λ p ps w ws. refl }

-- ---- one module: its entries are permitted, or it is not chosen

untested : Tests (λ ps ws. true) (λ p w. true)
untested = record { none = λ ws. refl; one = λ p ps w ws. refl }

module_right : (r : Room) (selection : List ℕ) (m : Module) (ws : List ℤ) → length (rows_of m.layout) ≤ length ws
    → chosen_permitted r selection (parameters_of m) ws ≡ (not (eqb (get_or selection m.number 0) 1) || rows_permit (rows_of m.layout) ws)
module_right r selection m ws l = go (eqb (get_or selection m.number 0) 1) refl
  where
    long : length (parameters_of m) ≤ length ws
    long = omega (arith, length-parameters_of m)

    go : (b : Bool) → eqb (get_or selection m.number 0) 1 ≡ b
        → chosen_permitted r selection (parameters_of m) ws ≡ (not b || rows_permit (rows_of m.layout) ws)
    go true e =
        tested_alike (chosen-tests r selection) (each_tests r) m (λ p w o. rw (own-choice selection m p o, e)) (parameters_of m) ws (owned m) long
        ∙ module_permit r m ws
    go false e = tested_alike (chosen-tests r selection) untested m (λ p w o. rw (own-choice selection m p o, e)) (parameters_of m) ws (owned m) long

pub module_unchosen : (selected : ℕ) (b : Bool) → (selected ≡ 1 → ⊥) → true ≡ (not (eqb selected 1) || b)
module_unchosen selected b h = rw (ne_eqb selected 1 h)

pub module_chosen : (selected : ℕ) (b c : Bool) → selected ≡ 1 → b ≡ c → b ≡ (not (eqb selected 1) || c)
module_chosen selected b c h e = rw (eq-eqb selected 1 h) e

pub ruleset one_module = (module_unchosen, module_chosen)

-- ---- the walk: the entries of the records passed are right

pub record Wanting (r : Room) (selection : List ℕ) (ws : List ℤ) (number place first : ℕ) : Type 0 where
  pub each : Each (chosen_permitted r selection) r.table ws number place first
  pub bytes : length selection ≡ length (modules r.table)

pub selection_long : (t selection : List ℕ) → selection_right t selection ≡ true → length selection ≡ length (modules t)
unfolding selection_right
selection_long t selection e = eqb-true (length selection) (length (modules t)) (both_left (eqb (length selection) (length (modules t))) (every at_most_one selection) e)

pub wanted_long : (r : Room) (selection : List ℕ) (ws : List ℤ) → wanted_right r selection ws ≡ true → length ws ≡ length (parameters r.table)
unfolding wanted_right
wanted_long r selection ws e =
    eqb-true (length ws) (length (parameters r.table)) (both_left (eqb (length ws) (length (parameters r.table))) (chosen_permitted r selection (parameters r.table) ws) e)

pub wanted_each : (r : Room) (selection : List ℕ) (ws : List ℤ) → wanted_right r selection ws ≡ true → chosen_permitted r selection (parameters r.table) ws ≡ true
unfolding wanted_right
wanted_each r selection ws e = both_right (eqb (length ws) (length (parameters r.table))) (chosen_permitted r selection (parameters r.table) ws) e

pub wanting_start : (r : Room) (selection : List ℕ) (ws : List ℤ) → sound r.table ≡ true → selection_right r.table selection ≡ true → Wanting r selection ws 0 0 0
wanting_start r selection ws e h = record { each = each_start (chosen_permitted r selection) r.table ws e; bytes = selection_long r.table selection h }

module _ (r : Room) (selection : List ℕ) (ws : List ℤ) (number place first : ℕ) (s : Wanting r selection ws number place first) (l : place < length r.table) where
  pub wanting_byte : number < length selection
  wanting_byte = omega (arith, s.bytes, walk_numbered r.table number place first s.each.counted.walk l)

  module _ (rows : ℕ) (n : rows ≡ length (rows_of (layout_at r.table place))) where
    pub wanting_short : length ws - first < rows → false ≡ wanted_right r selection ws
    unfolding wanted_right
    wanting_short h = each_short (chosen_permitted r selection) r.table ws number place first s.each l rows n h

    module _ (room : rows ≤ length ws - first) (b : Bool) (x : Layout) (q : x ≡ layout_at r.table place)
        (f : b ≡ (not (eqb (get_or selection number 0) 1) || rows_permit (rows_of x) (take (first + rows - first) (drop first ws)))) where
      here : chosen_permitted r selection (parameters_of (module_here r.table number place first)) (take rows (drop first ws)) ≡ b
      here =
          let d : first + rows - first ≡ rows = omega arith in
          let long : length (rows_of (layout_at r.table place)) ≤ length (take rows (drop first ws)) =
          omega (arith, length-take rows (drop first ws), length-drop first ws) in
          module_right r selection (module_here r.table number place first) (take rows (drop first ws)) long ∙ sym (rw (d, q) at f)

      pub wanting_wrong : b ≡ false → false ≡ wanted_right r selection ws
      unfolding wanted_right
      wanting_wrong h = each_wrong (chosen_permitted r selection) r.table ws number place first s.each l rows n (chosen-tests r selection) room b here h

      wanting_next : (size : ℕ) → size ≡ body_length (get_or r.table place 0) → b ≡ true → Wanting r selection ws (number + 1) (place + 1 + size) (first + rows)
      wanting_next size e h =
          record { each = each_next (chosen_permitted r selection) r.table ws number place first s.each l rows n (chosen-tests r selection) room b here size e h; bytes = s.bytes }

-- the next record, where the test of this one did not fail
pub wanting_on : (r : Room) (selection : List ℕ) (ws : List ℤ) (number place first rows size : ℕ) (b : Bool) (x : Layout) → Wanting r selection ws number place first → place < length r.table
    → not b ≡ false → size ≡ body_length (get_or r.table place 0) → rows ≡ length (rows_of (layout_at r.table place)) → rows ≤ length ws - first
    → x ≡ layout_at r.table place
    → b ≡ (not (eqb (get_or selection number 0) 1) || rows_permit (rows_of x) (take (first + rows - first) (drop first ws)))
    → Wanting r selection ws (number + 1) (place + 1 + size) (first + rows)
wanting_on r selection ws number place first rows size b x s l h e n room q f =
    wanting_next r selection ws number place first s l rows n room b x q f size e (not-false b h)

pub wanting_all : (r : Room) (selection : List ℕ) (ws : List ℤ) (number place first : ℕ) → Wanting r selection ws number place first → length r.table ≤ place
    → eqb first (length ws) ≡ wanted_right r selection ws
unfolding wanted_right
wanting_all r selection ws number place first s l = each_all (chosen_permitted r selection) (chosen-tests r selection) r.table ws number place first s.each l

-- ---- the same by the module that the walk gives

pub wanting_begun : (r : Room) (selection : List ℕ) (ws : List ℤ) (number place first : ℕ) → sound r.table ≡ true → selection_right r.table selection ≡ true → number ≡ 0 → place ≡ 0 → first ≡ 0
    → Wanting r selection ws number place first
wanting_begun r selection ws number place first h k a b c = rw (a, b, c) (wanting_start r selection ws h k)

module _ (r : Room) (selection : List ℕ) (ws : List ℤ) (number place first : ℕ) (m : Module) (next_number next_place next_first : ℕ)
    (st : Step r.table number place first m next_number next_place next_first) (s : Wanting r selection ws number place first) where
  pub want_byte : m.number < length selection
  want_byte = at_module r.table number place first m next_number next_place next_first st (λ x. x.number < length selection) (wanting_byte r selection ws number place first s st.inside)

  pub want_before : m.first ≤ length ws
  want_before = at_module r.table number place first m next_number next_place next_first st (λ x. x.first ≤ length ws) s.each.within

  pub want_short : (rows : ℕ) → rows ≡ length (rows_of m.layout) → length ws - m.first < rows → false ≡ wanted_right r selection ws
  want_short =
      at_module r.table number place first m next_number next_place next_first st
      (λ x. (rows : ℕ) → rows ≡ length (rows_of x.layout) → length ws - x.first < rows → false ≡ wanted_right r selection ws)
      (λ rows n h. wanting_short r selection ws number place first s st.inside rows n h)

  pub want_wrong : (rows : ℕ) → rows ≡ length (rows_of m.layout) → rows ≤ length ws - m.first → (b : Bool)
      → b ≡ (not (eqb (get_or selection m.number 0) 1) || rows_permit (rows_of m.layout) (take (m.first + rows - m.first) (drop m.first ws))) → b ≡ false
      → false ≡ wanted_right r selection ws
  want_wrong =
      at_module r.table number place first m next_number next_place next_first st
      (λ x. (rows : ℕ) → rows ≡ length (rows_of x.layout) → rows ≤ length ws - x.first → (b : Bool)
      → b ≡ (not (eqb (get_or selection x.number 0) 1) || rows_permit (rows_of x.layout) (take (x.first + rows - x.first) (drop x.first ws))) → b ≡ false
      → false ≡ wanted_right r selection ws)
      (λ rows n room b f h. wanting_wrong r selection ws number place first s st.inside rows n room b (layout_at r.table place) refl f h)

  pub want_next : (rows : ℕ) → rows ≡ length (rows_of m.layout) → rows ≤ length ws - m.first → (b : Bool)
      → b ≡ (not (eqb (get_or selection m.number 0) 1) || rows_permit (rows_of m.layout) (take (m.first + rows - m.first) (drop m.first ws))) → not b ≡ false
      → Wanting r selection ws next_number next_place next_first
  want_next =
      at_module r.table number place first m next_number next_place next_first st
      (λ x. (rows : ℕ) → rows ≡ length (rows_of x.layout) → rows ≤ length ws - x.first → (b : Bool)
      → b ≡ (not (eqb (get_or selection x.number 0) 1) || rows_permit (rows_of x.layout) (take (x.first + rows - x.first) (drop x.first ws))) → not b ≡ false
      → Wanting r selection ws next_number next_place next_first)
      (λ rows n room b f h.
      let c : length (rows_of (layout_at r.table place)) ≡ rows = sym n in
      at_next r.table number place first m next_number next_place next_first st (λ a p d. Wanting r selection ws a p d)
      (rw c (wanting_on r selection ws number place first rows (body_length (get_or r.table place 0)) b (layout_at r.table place) s st.inside h refl n room refl f)))

  pub want_ended : (rows : ℕ) → rows ≡ length (rows_of m.layout) → m.first + rows ≡ next_first
  want_ended rows n =
      let e : m.first ≡ first = at_module r.table number place first m next_number next_place next_first st (λ x. x.first ≡ first) refl in
      omega (arith, e, step_first r.table number place first m next_number next_place next_first st rows n)

pub ruleset wanting = (wanting_begun, wanting_start, wanting_short, wanting_byte, wanting_wrong, wanting_on, wanting_all, part_left, not-true, not-false)
