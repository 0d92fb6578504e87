-- Rules for testing a module's values, one by one.
use Rattle.std.specs.Prelude.{◌≡◌, refl, Bool, true, false, ◌&&◌, List, [], ◌∷◌, ℕ, ◌+◌, ◌≤◌, ◌<◌, ℤ, pos, length, get_or, drop}
use Rattle.std.proofs.Common.{sym, ◌∙◌, add-one, arith, drop_of_length-le, drop-cons, to_z-of_z, SFits, of_z, to_z}
use Rattle.std.proofs.lemmas.Bool.{not-false, not-true}
use Rattle.std.specs.Int.{w64}
use Rattle.catalogue.specs.Catalogue.{entry_at, first_row, fixed, row_of, rows_of}
use Rattle.catalogue.specs.Catalogue.Laws.{rows_from}
use Rattle.catalogue.specs.Catalogue.Run.{run_row}
use Rattle.catalogue.specs.Row.{permitted}
use Rattle.values.specs.Permit.{rows_permit}
use Rattle.catalogue.specs.declared.layout.Layout.{Layout}
use Rattle.catalogue.specs.declared.row.Row.{Row}

-- ---- one value more, of any rows

head : (r : Row) (rs : List Row) (v : ℤ) (vs : List ℤ) → rows_permit (r ∷ rs) (v ∷ vs) ≡ (permitted r v && rows_permit rs vs)
unfolding rows_permit
head r rs v vs = refl

pub one_tested : (rs : List Row) (vs : List ℤ) (j : ℕ) (r : Row) (t : Bool) → drop j rs ≡ r ∷ drop (j + 1) rs → j < length vs → SFits w64 (get_or vs j (pos 0))
    → t ≡ permitted r (to_z w64 (of_z w64 (get_or vs j (pos 0)))) → rows_permit (drop j rs) (drop j vs) ≡ (t && rows_permit (drop (j + 1) rs) (drop (j + 1) vs))
one_tested rs vs j r t d l f g =
    let p : permitted r (get_or vs j (pos 0)) ≡ t = sym (rw (to_z-of_z f) at g) in
    rw (d, drop-cons vs j (pos 0) l, ← add-one j) (head r (drop (j + 1) rs) (get_or vs j (pos 0)) (drop (j + 1) vs) ∙ rw p)

pub nothing_left : (rs : List Row) → rows_permit rs [] ≡ true
unfolding rows_permit
nothing_left [] = refl
nothing_left (r ∷ rs) = refl

-- ---- of a module that is no mixer

-- a layout whose rows begin at `first` in the catalogue, one for each value
pub record Laid (first : ℕ) (vs : List ℤ) (x : Layout) : Type 0 where
  pub other : fixed x.kind ≡ true
  pub begins : first ≡ first_row x.kind
  pub many : length vs ≡ length (rows_of x)

-- the first j values are permitted, for every such layout
pub record Tested (first : ℕ) (vs : List ℤ) (j : ℕ) : Type 0 where
  pub within : j ≤ length vs
  pub rest : (x : Layout) → Laid first vs x → rows_permit (rows_of x) vs ≡ rows_permit (drop j (rows_of x)) (drop j vs)

pub tested_start : (first : ℕ) (vs : List ℤ) → Tested first vs 0
tested_start first vs = record { within = omega arith; rest = λ x h. refl }

pub tested_inside : (x : Layout) (vs : List ℤ) (j : ℕ) → length vs ≡ length (rows_of x) → j < length vs → j < length (rows_of x)
tested_inside x vs j e l = omega arith

module _ (first : ℕ) (vs : List ℤ) (j : ℕ) (s : Tested first vs j) (l : j < length vs) (t : Bool) (f : SFits w64 (get_or vs j (pos 0))) (g : t ≡ permitted (entry_at (first + j)).row (to_z w64 (of_z w64 (get_or vs j (pos 0))))) where
  at_value : (x : Layout) → Laid first vs x → rows_permit (rows_of x) vs ≡ (t && rows_permit (drop (j + 1) (rows_of x)) (drop (j + 1) vs))
  at_value x h =
      let inside = tested_inside x vs j h.many l in
      let row_is : (entry_at (first + j)).row ≡ row_of x j = run_row x j first h.other inside h.begins _ refl in
      s.rest x h ∙ one_tested (rows_of x) vs j (row_of x j) t (rows_from x j inside) l f (rw row_is at g)

  pub tested_next : t ≡ true → Tested first vs (j + 1)
  tested_next h = record { within = omega arith; rest = λ x k. rw h at (at_value x k) }

  pub tested_wrong : (x : Layout) → fixed x.kind ≡ true → first ≡ first_row x.kind → length vs ≡ length (rows_of x) → t ≡ false → false ≡ rows_permit (rows_of x) vs
  tested_wrong x o b e h = sym (rw h at (at_value x (record { other = o; begins = b; many = e })))

pub tested_all : (first : ℕ) (vs : List ℤ) (j : ℕ) (x : Layout) → Tested first vs j → length vs ≤ j
    → fixed x.kind ≡ true → first ≡ first_row x.kind → length vs ≡ length (rows_of x) → true ≡ rows_permit (rows_of x) vs
tested_all first vs j x s l o b e =
    sym (s.rest x (record { other = o; begins = b; many = e }) ∙ rw (drop_of_length-le vs l) (nothing_left (drop j (rows_of x))))

pub ruleset testing = (tested_start, tested_inside, tested_next, tested_wrong, tested_all, not-true, not-false)
