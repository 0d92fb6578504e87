-- The walk over a table's records, in its parameters: those of the records passed, and those from here on.
use Rattle.std.specs.Prelude.{◌≡◌, refl, true, List, [], ◌++◌, ℕ, ◌+◌, ◌-◌, ◌≤◌, ◌<◌, length, get_or, Some, None}
use Rattle.std.proofs.Common.{ap, sym, ◌∙◌, arith, length-append}
use Rattle.catalogue.specs.Catalogue.{row_of, rows_of}
use Rattle.values.specs.Parameters.{parameter_at, parameters, parameters_in, parameters_of}
use Rattle.values.specs.Parameters.Laws.{length-parameters_of, parameter_early, parameter_late, parameter_of, parameters_of-at}
use Rattle.room.specs.Table.{sound}
use Rattle.record.specs.Body.{body_length}
use Rattle.record.specs.Layout.{layout_at}
use Rattle.room.specs.Table.Walk.{Walk, modules_at, modules-end, modules-next, modules-start, walk_next, walk_start}
use Rattle.room.specs.Table.Steps.{Step, at_module, at_next}
use Rattle.catalogue.specs.declared.layout.Layout.{Layout}
use Rattle.catalogue.specs.declared.row.Row.{Row}
use Rattle.room.specs.declared.table.Module.{Module}
use Rattle.values.specs.declared.parameter.Parameter.{Parameter}

-- the parameters from the record at a place on
unfoldable pub parameters_at : List ℕ → (number place first : ℕ) → List Parameter
parameters_at t number place first = parameters_in (modules_at t number place first)

-- the module of the record at a place
abbrev pub module_here : List ℕ → (number place first : ℕ) → Module
module_here t number place first = record { number = number; place = place; layout = layout_at t place; first = first }

-- it has as many parameters as its layout has rows
pub module_count : (t : List ℕ) (number place first rows : ℕ) → rows ≡ length (rows_of (layout_at t place)) → length (parameters_of (module_here t number place first)) ≡ rows
module_count t number place first rows n = length-parameters_of (module_here t number place first) ∙ sym n

pub parameters-start : (t : List ℕ) → parameters t ≡ parameters_at t 0 0 0
unfolding parameters parameters_at
parameters-start t = ap parameters_in (modules-start t)

pub parameters-next : (t : List ℕ) (number place first : ℕ) → Walk t number place first → place < length t → (size rows : ℕ)
    → size ≡ body_length (get_or t place 0) → rows ≡ length (rows_of (layout_at t place))
    → parameters_at t number place first ≡ parameters_of (module_here t number place first) ++ parameters_at t (number + 1) (place + 1 + size) (first + rows)
unfolding parameters_at parameters_in
parameters-next t number place first w l size rows e n = ap parameters_in (modules-next t number place first w l size rows e n)

pub parameters-end : (t : List ℕ) (number place first : ℕ) → length t ≤ place → parameters_at t number place first ≡ []
unfolding parameters_at parameters_in
parameters-end t number place first l = ap parameters_in (modules-end t number place first l)

-- ---- counting them

pub record Counted (t : List ℕ) (number place first : ℕ) : Type 0 where
  pub walk : Walk t number place first
  pub total : length (parameters t) ≡ first + length (parameters_at t number place first)

pub counted_start : (t : List ℕ) → sound t ≡ true → Counted t 0 0 0
counted_start t e = record { walk = walk_start t e; total = omega (arith, ap length (parameters-start t)) }

pub counted_next : (t : List ℕ) (number place first : ℕ) → Counted t number place first → place < length t → (size rows : ℕ)
    → size ≡ body_length (get_or t place 0) → rows ≡ length (rows_of (layout_at t place)) → Counted t (number + 1) (place + 1 + size) (first + rows)
counted_next t number place first c l size rows e n =
    let m = module_here t number place first in
    let more = ap length (parameters-next t number place first c.walk l size rows e n) in
    record {
      walk = walk_next t number place first c.walk l size rows e n;
      total =
          omega
          (arith, c.total, more, length-append (parameters_of m) (parameters_at t (number + 1) (place + 1 + size) (first + rows)), module_count t number place first rows n);
    }

pub counted-all : (t : List ℕ) (number place first : ℕ) → Counted t number place first → length t ≤ place → first ≡ length (parameters t)
counted-all t number place first c l = omega (arith, c.total, ap length (parameters-end t number place first l))

pub counted_begun : (t : List ℕ) (number place first : ℕ) → sound t ≡ true → number ≡ 0 → place ≡ 0 → first ≡ 0 → Counted t number place first
counted_begun t number place first s a b c = rw (a, b, c) (counted_start t s)

pub counted_step : (t : List ℕ) (number place first : ℕ) (m : Module) (next_number next_place next_first : ℕ) → Step t number place first m next_number next_place next_first
    → Counted t number place first → Counted t next_number next_place next_first
counted_step t number place first m next_number next_place next_first s c =
    at_next t number place first m next_number next_place next_first s (λ a b d. Counted t a b d)
    (counted_next t number place first c s.inside (body_length (get_or t place 0)) (length (rows_of (layout_at t place))) refl refl)

pub ruleset counting = (counted_begun, counted_step, counted_start, counted_next, counted-all)

-- ---- finding the one with a number

pub record Passed (t : List ℕ) (k number place first : ℕ) : Type 0 where
  pub walk : Walk t number place first
  pub before : first ≤ k
  pub rest : parameter_at (parameters t) k ≡ parameter_at (parameters_at t number place first) (k - first)

pub passed_start : (t : List ℕ) (k : ℕ) → sound t ≡ true → Passed t k 0 0 0
passed_start t k e =
    let z : k - 0 ≡ k = omega arith in
    record { walk = walk_start t e; before = omega arith; rest = rw (z, parameters-start t) refl }

module _ (t : List ℕ) (k number place first : ℕ) (s : Passed t k number place first) (l : place < length t) (rows : ℕ) (n : rows ≡ length (rows_of (layout_at t place))) where
  pub passed_next : (size : ℕ) → size ≡ body_length (get_or t place 0) → rows ≤ k - first → Passed t k (number + 1) (place + 1 + size) (first + rows)
  passed_next size e h =
      let m = module_here t number place first in
      let b = s.before in
      let d : k - first ≡ length (parameters_of m) + (k - (first + rows)) = omega (arith, module_count t number place first rows n) in
      record {
        walk = walk_next t number place first s.walk l size rows e n;
        before = omega arith;
        rest = s.rest ∙ rw (parameters-next t number place first s.walk l size rows e n, d) (parameter_late (parameters_of m) _ (k - (first + rows)));
      }

  pub passed_here : (r : Row) (x : Layout) → x ≡ layout_at t place → k - first < rows → r ≡ row_of x (k - first)
      → Some (record { owner = record { number = number; place = place; layout = x; first = first }; number = k - first; row = r }) ≡ parameter_at (parameters t) k
  passed_here r x q h g =
      let m = module_here t number place first in
      let inside : k - first < length (rows_of (layout_at t place)) = omega (arith, n) in
      let early : k - first < length (parameters_of m) = omega (arith, module_count t number place first rows n) in
      let row : r ≡ row_of (layout_at t place) (k - first) = rw q at g in
      rw q
      (sym
      (s.rest
      ∙ rw (parameters-next t number place first s.walk l (body_length (get_or t place 0)) rows refl n)
      (parameter_early (parameters_of m) _ (parameter_of m (k - first)) (k - first) early ∙ ap Some (parameters_of-at m (parameter_of m (k - first)) (k - first) inside) ∙ rw row)))

pub number-inside : (x : Layout) (rows j : ℕ) → rows ≡ length (rows_of x) → j < rows → j < length (rows_of x)
number-inside x rows j n h = omega arith

no_more : (k : ℕ) → parameter_at [] k ≡ None
unfolding parameter_at
no_more k = refl

pub passed_all : (t : List ℕ) (k number place first : ℕ) → Passed t k number place first → length t ≤ place → None ≡ parameter_at (parameters t) k
passed_all t k number place first s l = sym (s.rest ∙ rw (parameters-end t number place first l) (no_more (k - first)))

pub passed_begun : (t : List ℕ) (k number place first : ℕ) → sound t ≡ true → number ≡ 0 → place ≡ 0 → first ≡ 0 → Passed t k number place first
passed_begun t k number place first s a b c = rw (a, b, c) (passed_start t k s)

module _ (t : List ℕ) (k number place first : ℕ) (m : Module) (next_number next_place next_first : ℕ) (s : Step t number place first m next_number next_place next_first)
    (p : Passed t k number place first) where
  pub passed_before : m.first ≤ k
  passed_before = at_module t number place first m next_number next_place next_first s (λ x. x.first ≤ k) p.before

  pub passed_step : (rows : ℕ) → rows ≡ length (rows_of m.layout) → rows ≤ k - m.first → Passed t k next_number next_place next_first
  passed_step =
      at_module t number place first m next_number next_place next_first s
      (λ x. (rows : ℕ) → rows ≡ length (rows_of x.layout) → rows ≤ k - x.first → Passed t k next_number next_place next_first)
      (λ rows n h.
      at_next t number place first m next_number next_place next_first s (λ a b d. Passed t k a b d)
      (passed_next t k number place first p s.inside (length (rows_of (layout_at t place))) refl (body_length (get_or t place 0)) refl (omega (arith, n))))

  pub passed_module : (rows : ℕ) (r : Row) → rows ≡ length (rows_of m.layout) → k - m.first < rows → r ≡ row_of m.layout (k - m.first)
      → Some (record { owner = m; number = k - m.first; row = r }) ≡ parameter_at (parameters t) k
  passed_module =
      at_module t number place first m next_number next_place next_first s
      (λ x. (rows : ℕ) (r : Row) → rows ≡ length (rows_of x.layout) → k - x.first < rows → r ≡ row_of x.layout (k - x.first)
      → Some (record { owner = x; number = k - x.first; row = r }) ≡ parameter_at (parameters t) k)
      (λ rows r n h g. passed_here t k number place first p s.inside rows n r (layout_at t place) refl h g)

pub ruleset passing = (passed_begun, passed_before, passed_step, passed_module, passed_start, passed_next, passed_here, number-inside, passed_all)
