-- Rules for testing a value list, module by module.
use Rattle.std.specs.Prelude.{◌≡◌, refl, Bool, true, false, ◌&&◌, List, [], ◌∷◌, ℕ, ◌+◌, ◌-◌, ◌≤◌, ◌<◌, eqb, ℤ, length, get_or, take, drop}
use Rattle.std.proofs.Common.{ap, sym, ◌∙◌, arith}
use Rattle.std.proofs.lemmas.Bool.{not-false, not-true}
use Rattle.catalogue.specs.Catalogue.{rows_of}
use Rattle.text.specs.Cut.Part.{part_left}
use Rattle.values.specs.Parameters.{numbered, parameters_of}
use Rattle.values.specs.Parameters.Walk.{module_here}
use Rattle.catalogue.specs.Row.{permitted}
use Rattle.record.specs.Body.{body_length}
use Rattle.record.specs.Layout.{layout_at}
use Rattle.room.specs.Table.{sound}
use Rattle.room.specs.Table.Steps.{Step, at_module, at_next, step_first}
use Rattle.values.specs.Room.{Room}
use Rattle.values.specs.Room.Laws.{row_in-own}
use Rattle.values.specs.Values.{each_permitted, values_sound}
use Rattle.values.specs.Permit.{rows_permit}
use Rattle.values.specs.Values.Each.{Each, each_all, each_next, each_short, each_start, each_wrong}
use Rattle.values.specs.Values.Laws.{each_tests}
use Rattle.catalogue.specs.declared.layout.Layout.{Layout}
use Rattle.catalogue.specs.declared.row.Row.{Row}
use Rattle.room.specs.declared.table.Module.{Module}

-- ---- parameters and rows: the code judges by the own row of each

numbered-permit : (r : Room) (m : Module) (n : ℕ) (rs : List Row) (vs : List ℤ) → each_permitted r (numbered m n rs) vs ≡ rows_permit rs vs
unfolding numbered each_permitted rows_permit
numbered-permit r m n [] vs = refl
numbered-permit r m n (o ∷ rs) [] = refl
numbered-permit r m n (o ∷ rs) (v ∷ vs) =
    rw (row_in-own r (record { owner = m; number = n; row = o })) (ap (λ (b : Bool). permitted o v && b) (numbered-permit r m (n + 1) rs vs))

pub module_permit : (r : Room) (m : Module) (vs : List ℤ) → each_permitted r (parameters_of m) vs ≡ rows_permit (rows_of m.layout) vs
unfolding parameters_of
module_permit r m vs = numbered-permit r m 0 (rows_of m.layout) vs

-- ---- the walk: the values of the records passed are permitted

abbrev pub Fitting : (r : Room) (vs : List ℤ) (number place first : ℕ) → Type 0
Fitting r vs number place first = Each (each_permitted r) r.table vs number place first

module _ (r : Room) (vs : List ℤ) (number place first : ℕ) (s : Fitting r vs number place first) (l : place < length r.table) (rows : ℕ) (n : rows ≡ length (rows_of (layout_at r.table place))) where
  pub fitting_short : length vs - first < rows → false ≡ values_sound r vs
  unfolding values_sound
  fitting_short h = each_short (each_permitted r) r.table vs number place first s l rows n h

  module _ (room : rows ≤ length vs - first) (b : Bool) (x : Layout) (q : x ≡ layout_at r.table place)
      (f : b ≡ rows_permit (rows_of x) (take (first + rows - first) (drop first vs))) where
    here : each_permitted r (parameters_of (module_here r.table number place first)) (take rows (drop first vs)) ≡ b
    here =
        let d : first + rows - first ≡ rows = omega arith in
        module_permit r (module_here r.table number place first) (take rows (drop first vs)) ∙ sym (rw (d, q) at f)

    pub fitting_wrong : b ≡ false → false ≡ values_sound r vs
    unfolding values_sound
    fitting_wrong h = each_wrong (each_permitted r) r.table vs number place first s l rows n (each_tests r) room b here h

    pub fitting_next : (size : ℕ) → size ≡ body_length (get_or r.table place 0) → b ≡ true → Fitting r vs (number + 1) (place + 1 + size) (first + rows)
    fitting_next size e h = each_next (each_permitted r) r.table vs number place first s l rows n (each_tests r) room b here size e h

pub fitting_all : (r : Room) (vs : List ℤ) (number place first : ℕ) → Fitting r vs number place first → length r.table ≤ place → eqb first (length vs) ≡ values_sound r vs
unfolding values_sound
fitting_all r vs number place first s l = each_all (each_permitted r) (each_tests r) r.table vs number place first s l

-- ---- the same by the module that the walk gives

pub fit_begun : (r : Room) (vs : List ℤ) (number place first : ℕ) → sound r.table ≡ true → number ≡ 0 → place ≡ 0 → first ≡ 0 → Fitting r vs number place first
fit_begun r vs number place first h a b c = rw (a, b, c) (each_start (each_permitted r) r.table vs h)

module _ (r : Room) (vs : List ℤ) (number place first : ℕ) (m : Module) (next_number next_place next_first : ℕ) (st : Step r.table number place first m next_number next_place next_first)
    (s : Fitting r vs number place first) where
  pub fit_before : m.first ≤ length vs
  fit_before = at_module r.table number place first m next_number next_place next_first st (λ x. x.first ≤ length vs) s.within

  pub fit_short : (rows : ℕ) → rows ≡ length (rows_of m.layout) → length vs - m.first < rows → false ≡ values_sound r vs
  fit_short =
      at_module r.table number place first m next_number next_place next_first st
      (λ x. (rows : ℕ) → rows ≡ length (rows_of x.layout) → length vs - x.first < rows → false ≡ values_sound r vs)
      (λ rows n h. fitting_short r vs number place first s st.inside rows n h)

  pub fit_wrong : (rows : ℕ) → rows ≡ length (rows_of m.layout) → rows ≤ length vs - m.first → (b : Bool)
      → b ≡ rows_permit (rows_of m.layout) (take (m.first + rows - m.first) (drop m.first vs)) → b ≡ false → false ≡ values_sound r vs
  fit_wrong =
      at_module r.table number place first m next_number next_place next_first st
      (λ x. (rows : ℕ) → rows ≡ length (rows_of x.layout) → rows ≤ length vs - x.first → (b : Bool)
      → b ≡ rows_permit (rows_of x.layout) (take (x.first + rows - x.first) (drop x.first vs)) → b ≡ false → false ≡ values_sound r vs)
      (λ rows n room b f h. fitting_wrong r vs number place first s st.inside rows n room b (layout_at r.table place) refl f h)

  pub fit_next : (rows : ℕ) → rows ≡ length (rows_of m.layout) → rows ≤ length vs - m.first → (b : Bool)
      → b ≡ rows_permit (rows_of m.layout) (take (m.first + rows - m.first) (drop m.first vs)) → b ≡ true → Fitting r vs next_number next_place next_first
  fit_next =
      at_module r.table number place first m next_number next_place next_first st
      (λ x. (rows : ℕ) → rows ≡ length (rows_of x.layout) → rows ≤ length vs - x.first → (b : Bool)
      → b ≡ rows_permit (rows_of x.layout) (take (x.first + rows - x.first) (drop x.first vs)) → b ≡ true → Fitting r vs next_number next_place next_first)
      (λ rows n room b f h.
      let c : length (rows_of (layout_at r.table place)) ≡ rows = sym n in
      at_next r.table number place first m next_number next_place next_first st (λ a p d. Fitting r vs a p d)
      (rw c (fitting_next r vs number place first s st.inside rows n room b (layout_at r.table place) refl f (body_length (get_or r.table place 0)) refl h)))

  pub fit_ended : (rows : ℕ) → rows ≡ length (rows_of m.layout) → m.first + rows ≡ next_first
  fit_ended rows n =
      let e : m.first ≡ first = at_module r.table number place first m next_number next_place next_first st (λ x. x.first ≡ first) refl in
      omega (arith, e, step_first r.table number place first m next_number next_place next_first st rows n)

pub ruleset fitting = (each_start, fitting_short, fitting_wrong, fitting_next, fitting_all, part_left, not-true, not-false)
