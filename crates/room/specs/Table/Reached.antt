-- The search for the module with a number.
use Rattle.std.specs.Prelude.{◌≡◌, refl, true, List, ℕ, suc, ◌+◌, ◌-◌, ◌≤◌, ◌<◌, length, get_or, Some, None}
use Rattle.std.proofs.Common.{ap, sym, ◌∙◌, arith}
use Rattle.catalogue.specs.Catalogue.{rows_of}
use Rattle.catalogue.specs.declared.layout.Layout.{Layout}
use Rattle.room.specs.Table.{module_at, modules, sound}
use Rattle.record.specs.Body.{body_length}
use Rattle.record.specs.Layout.{layout_at}
use Rattle.room.specs.Table.Modules.{at_first, at_none, at_others}
use Rattle.room.specs.Table.Walk.{Walk, modules_at, modules-end, modules-next, modules-start, walk_next, walk_start}
use Rattle.room.specs.Table.Steps.{Step, at_next, walk_step}
use Rattle.room.specs.declared.table.Module.{Module}

-- the search for the module n stands at the record with the number k
pub record Reached (t : List ℕ) (n k place first : ℕ) : Type 0 where
  pub walk : Walk t k place first
  pub ahead : k ≤ n
  pub rest : module_at (modules t) n ≡ module_at (modules_at t k place first) (n - k)

pub reached_start : (t : List ℕ) (n : ℕ) → sound t ≡ true → Reached t n 0 0 0
reached_start t n e =
    let z : n - 0 ≡ n = omega arith in
    record { walk = walk_start t e; ahead = omega arith; rest = rw (modules-start t, z) }

module _ (t : List ℕ) (n k place first : ℕ) (h : Reached t n k place first) (l : place < length t) where
  pub reached_here : (m : Layout) → m ≡ layout_at t place → k ≡ n → Some (record { number = n; place = place; layout = m; first = first }) ≡ module_at (modules t) n
  reached_here m q e =
      let z : n - k ≡ 0 = omega arith in
      sym
      (h.rest ∙
      rw (modules-next t k place first h.walk l (body_length (get_or t place 0)) (length (rows_of (layout_at t place))) refl refl, z, at_first, e, q))

  pub reached_next : (size rows : ℕ) → (k ≡ n → ⊥) → size ≡ body_length (get_or t place 0) → rows ≡ length (rows_of (layout_at t place))
      → Reached t n (k + 1) (place + 1 + size) (first + rows)
  reached_next size rows d s r =
      let z : n - k ≡ suc (n - (k + 1)) = omega arith in
      record {
        walk = walk_next t k place first h.walk l size rows s r;
        ahead = omega arith;
        rest = h.rest ∙ rw (modules-next t k place first h.walk l size rows s r, z, at_others);
      }

pub reached_end : (t : List ℕ) (n k place first : ℕ) → Reached t n k place first → length t ≤ place → None ≡ module_at (modules t) n
reached_end t n k place first h l = sym (h.rest ∙ rw (modules-end t k place first l) (at_none (n - k)))

pub reached_begun : (t : List ℕ) (n k place first : ℕ) → sound t ≡ true → k ≡ 0 → place ≡ 0 → first ≡ 0 → Reached t n k place first
reached_begun t n k place first s a b c = rw (a, b, c) (reached_start t n s)

-- the numbers of the walk, and the module that it gives
module _ (t : List ℕ) (n k place first : ℕ) (m : Module) (next_k next_place next_first : ℕ) (h : Reached t n k place first) (s : Step t k place first m next_k next_place next_first) where
  pub reached_module : m.number ≡ n → Some m ≡ module_at (modules t) n
  reached_module e =
      let q : k ≡ n = ap (λ (x : Module). x.number) (sym s.gives) ∙ e in
      ap Some s.gives ∙ rw q (reached_here t n k place first h s.inside (layout_at t place) refl q)

  pub reached_step : (m.number ≡ n → ⊥) → Reached t n next_k next_place next_first
  reached_step d =
      at_next t k place first m next_k next_place next_first s (λ a b c. Reached t n a b c)
      (reached_next t n k place first h s.inside (body_length (get_or t place 0)) (length (rows_of (layout_at t place)))
      (λ q. d (ap (λ (x : Module). x.number) s.gives ∙ q)) refl refl)

pub ruleset reaching = (reached_begun, reached_module, reached_step, walk_step, reached_start, reached_here, reached_next, reached_end)
