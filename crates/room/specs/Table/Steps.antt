-- A step from one record of a table to the next.
use Rattle.std.specs.Prelude.{◌≡◌, refl, true, List, ℕ, ◌+◌, ◌-◌, ◌≤◌, ◌<◌, Option, length, get_or, MatchOption}
use Rattle.std.proofs.Common.{◌∙◌, ap, sym, subst, arith, Fits}
use Rattle.std.specs.Int.{w64}
use Rattle.catalogue.specs.Catalogue.{known_layout, rows_of}
use Rattle.catalogue.specs.declared.layout.Layout.{Layout}
use Rattle.record.specs.Body.{body_length}
use Rattle.record.specs.Layout.{layout_at}
use Rattle.room.specs.Table.{sound}
use Rattle.room.specs.Table.Walk.{Walk, first_fits, walk_known, walk_next, walk_start}
use Rattle.room.specs.declared.table.Module.{Module}

-- the module of the record at a place
abbrev pub module_here : List ℕ → (number place first : ℕ) → Module
module_here t number place first = record { number = number; place = place; layout = layout_at t place; first = first }

-- a record is at the place: its module is m, and the next record has these numbers
pub record Step (t : List ℕ) (number place first : ℕ) (m : Module) (next_number next_place next_first : ℕ) : Type 0 where
  pub inside : place < length t
  pub gives : m ≡ module_here t number place first
  pub number-next : next_number ≡ number + 1
  pub place-next : next_place ≡ place + 1 + body_length (get_or t place 0)
  pub first-next : next_first ≡ first + length (rows_of (layout_at t place))

-- what a call for the next module gives, and where the walk stands after it
abbrev pub Passes : List ℕ → (number place first : ℕ) → Option Module → List ℕ → (next_number next_place next_first : ℕ) → Type 0
Passes t number place first r u next_number next_place next_first =
    (u ≡ t) × MatchOption r ((length t ≤ place) × (next_number ≡ number) × (next_place ≡ place) × (next_first ≡ first)) (λ m. Step t number place first m next_number next_place next_first)

module _ (t : List ℕ) (number place first : ℕ) (m : Module) (next_number next_place next_first : ℕ) (s : Step t number place first m next_number next_place next_first) where
  -- what holds of the next record's numbers
  pub at_next : (P : ℕ → ℕ → ℕ → Type 0) → P (number + 1) (place + 1 + body_length (get_or t place 0)) (first + length (rows_of (layout_at t place))) → P next_number next_place next_first
  at_next P h = rw (s.number-next, s.place-next, s.first-next) h

  -- what holds of the module at the place
  pub at_module : (P : Module → Type 0) → P (module_here t number place first) → P m
  at_module P h = subst P (sym s.gives) h

  pub step_known : Walk t number place first → known_layout m.layout ≡ true
  step_known w = at_module (λ x. known_layout x.layout ≡ true) (walk_known t number place first w s.inside)

  pub step_first : (rows : ℕ) → rows ≡ length (rows_of m.layout) → next_first ≡ first + rows
  step_first rows n = s.first-next ∙ ap (λ (x : ℕ). first + x) (at_module (λ x. length (rows_of (layout_at t place)) ≡ length (rows_of x.layout)) refl ∙ sym n)

  pub step_fits : Walk t number place first → (rows : ℕ) → rows ≡ length (rows_of m.layout) → Fits w64 (first + rows)
  step_fits w rows n =
      at_module (λ x. rows ≡ length (rows_of x.layout) → Fits w64 (first + rows)) (λ e. first_fits t number place first w s.inside rows e) n

  pub walk_step : Walk t number place first → Walk t next_number next_place next_first
  walk_step w =
      at_next (λ n p f. Walk t n p f) (walk_next t number place first w s.inside (body_length (get_or t place 0)) (length (rows_of (layout_at t place))) refl refl)

pub step_made : (t : List ℕ) (number place first : ℕ) → place < length t → (x : Layout) → x ≡ layout_at t place → (size rows : ℕ)
    → size ≡ body_length (get_or t place 0) → rows ≡ length (rows_of (layout_at t place))
    → Step t number place first (record { number = number; place = place; layout = x; first = first }) (number + 1) (place + 1 + size) (first + rows)
step_made t number place first l x e size rows s n =
    record {
      inside = l;
      gives = ap (λ (y : Layout). record { number = number; place = place; layout = y; first = first }) e;
      number-next = refl;
      place-next = ap (λ k. place + 1 + k) s;
      first-next = ap (λ k. first + k) n;
    }

pub nearer : (n place size : ℕ) → place < n → n - (place + 1 + size) < n - place
nearer n place size l = omega arith

-- the walk over the iterator's own copy of the table
pub walk_start_of : (t u : List ℕ) (number place first : ℕ) → sound t ≡ true → u ≡ t → number ≡ 0 → place ≡ 0 → first ≡ 0 → Walk u number place first
walk_start_of t u number place first s e a b c = rw (e, a, b, c) (walk_start t s)

-- a step of the iterator's own copy of the table
pub step_of : (t u : List ℕ) (number place first : ℕ) (m : Module) (next_number next_place next_first : ℕ) → Step u number place first m next_number next_place next_first → u ≡ t
    → Step t number place first m next_number next_place next_first
step_of t u number place first m next_number next_place next_first s e = rw (sym e) s

pub past_end : (t u : List ℕ) (place : ℕ) → length u ≤ place → u ≡ t → length t ≤ place
past_end t u place l e = rw (sym e) l

pub ruleset stepping = (step_of, past_end, step_made, nearer, walk_step, walk_start_of)
