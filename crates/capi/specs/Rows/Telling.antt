-- Rules for the calls on a table's values and rows.
use Rattle.std.specs.Prelude.{◌≡◌, Bool, true, false, not, ℕ, ◌+◌, ◌^◌, ◌≤◌, ◌<◌, ℤ, pos, negsuc, Option, Some, None}
use Rattle.std.proofs.Math.Path.{refl, sym, ap}
use Rattle.std.proofs.Common.{◌∙◌, arith, drop_of_length-le, Fits, SFits, to_z}
use mathlib.Core.List.{List, [], ◌∷◌, ◌++◌, append-nil}
use borrow.Author.Tests.{eq-eqb, ltb-true, ne_eqb, not-false, not-true}
use Rattle.std.proofs.Math.ListN.{length}
use Rattle.std.proofs.Math.Facts.{to_z_pos}
use mir.Syntax.{w64}
use Rattle.catalogue.specs.Catalogue.Modules.{all_sized}
use Rattle.catalogue.specs.Catalogue.Sized.{sized_indices, sized_row}
use Rattle.catalogue.specs.Catalogue.Sized.Groups.{Small, indices-small, one, row_indices, two}
use Rattle.catalogue.specs.Catalogue.Steps.{all_narrow, narrow}
use Rattle.catalogue.specs.Row.{RowFits}
use Rattle.catalogue.specs.Row.Laws.{bits, value_bits}
use Rattle.catalogue.specs.declared.row.Indices.{Indices}
use Rattle.catalogue.specs.declared.row.Indices.TheVariants.{OneGroup, TwoGroups}
use Rattle.catalogue.specs.declared.row.Kind.{Kind}
use Rattle.catalogue.specs.declared.row.Kind.TheVariants.{Level, Switch, Number, Word}
use Rattle.catalogue.specs.declared.row.Row.{Row}
use Rattle.room.specs.Refusal.Laws.{all, first_by, passes, stops, test_passed, test_refused}
use Rattle.room.specs.Table.{sound, table_number}
use Rattle.room.specs.Table.Number.{table_passed, table_refused}
use Rattle.values.specs.Parameters.{by_row, parameter_at, parameters, place}
use Rattle.values.specs.Parameters.ByRow.{by_row-told}
use Rattle.values.specs.Parameters.Each.{every-parameter, parameter_fits}
use Rattle.values.specs.Parameters.First.{place_is}
use Rattle.values.specs.Starts.{Started, starts}
use Rattle.values.specs.Starts.Filling.{length-starts}
use Rattle.values.specs.Values.Few.{place-few}
use Rattle.values.specs.declared.parameter.Parameter.{Parameter}
use Rattle.capi.specs.Rows.{Told, count_answer, count_number, first_index, kind_number, of_row, over_table, place_answer, row_answer, row_numbers, second_index, seven_zeros, starts_answer, starts_number, tells}

-- indices far within 64 bits
pub record NarrowIndices (i : Indices) : Type 0 where
  pub one : (a : ℕ) → i ≡ OneGroup a → a < 1000
  pub first : (a b : ℕ) → i ≡ TwoGroups a b → a < 1000
  pub second : (a b : ℕ) → i ≡ TwoGroups a b → b < 1000

-- a row whose numbers are far within 64 bits
pub record Narrow (r : Row) : Type 0 where
  pub indices : NarrowIndices r.indices
  pub bounds : RowFits r
  pub step : r.step < 2 ^ 32

narrow-indices : (i : Indices) → sized_indices i ≡ true → NarrowIndices i
narrow-indices i h = go i (indices-small i h)
  where
    go : (i : Indices) → Small i → NarrowIndices i
    go (OneGroup _) (one x l) =
        record {
          one = λ a e. let q : x ≡ a = cc in omega arith;
          first = λ a b e. absurd (let z : ◌≡◌ {A = ℕ} 0 1 = cc in omega arith);
          second = λ a b e. absurd (let z : ◌≡◌ {A = ℕ} 0 1 = cc in omega arith);
        }
    go (TwoGroups _ _) (two x y l m) =
        record {
          one = λ a e. absurd (let z : ◌≡◌ {A = ℕ} 0 1 = cc in omega arith);
          first = λ a b e. let q : x ≡ a = cc in omega arith;
          second = λ a b e. let q : y ≡ b = cc in omega arith;
        }

-- ---- a row's numbers

module _ (i : Indices) (h : NarrowIndices i) where
  pub one_fits : (a : ℕ) → i ≡ OneGroup a → SFits w64 (pos a)
  one_fits a e = record { sfits = omega (arith, h.one a e) }

  pub first_fits : (a b : ℕ) → i ≡ TwoGroups a b → SFits w64 (pos a)
  first_fits a b e = record { sfits = omega (arith, h.first a b e) }

  pub second_fits : (a b : ℕ) → i ≡ TwoGroups a b → SFits w64 (pos b)
  second_fits a b e = record { sfits = omega (arith, h.second a b e) }

  pub first_one : (a : ℕ) → i ≡ OneGroup a → to_z w64 a ≡ first_index i
  unfolding first_index
  first_one a e = let l : a < 2 ^ 63 = omega (arith, h.one a e) in rw (e, to_z_pos w64 l)

  pub first_two : (a b : ℕ) → i ≡ TwoGroups a b → to_z w64 a ≡ first_index i
  unfolding first_index
  first_two a b e = let l : a < 2 ^ 63 = omega (arith, h.first a b e) in rw (e, to_z_pos w64 l)

  pub second_one : (a : ℕ) → i ≡ OneGroup a → negsuc 0 ≡ second_index i
  unfolding second_index
  second_one a e = rw e

  pub second_two : (a b : ℕ) → i ≡ TwoGroups a b → to_z w64 b ≡ second_index i
  unfolding second_index
  second_two a b e = let l : b < 2 ^ 63 = omega (arith, h.second a b e) in rw (e, to_z_pos w64 l)

pub ruleset indexing = (one_fits, first_fits, second_fits, first_one, first_two, second_one, second_two)

module _ (k : Kind) where
  pub kind-level : k ≡ Level → pos 0 ≡ kind_number k
  unfolding kind_number
  kind-level e = rw e

  pub kind-switch : k ≡ Switch → pos 1 ≡ kind_number k
  unfolding kind_number
  kind-switch e = rw e

  pub kind_number_lem : k ≡ Number → pos 2 ≡ kind_number k
  unfolding kind_number
  kind_number_lem e = rw e

  pub kind-word : k ≡ Word → pos 3 ≡ kind_number k
  unfolding kind_number
  kind-word e = rw e

pub ruleset kinds = (kind-level, kind-switch, kind_number_lem, kind-word)

module _ (r : Row) (first second number : ℤ) (n : Narrow r) (a : first ≡ first_index r.indices) (b : second ≡ second_index r.indices) (k : number ≡ kind_number r.kind) where
  bounded : (set : ℤ) → bits r.low ∷ bits r.high ∷ to_z w64 r.step ∷ set ∷ [] ≡ r.low ∷ r.high ∷ pos r.step ∷ set ∷ []
  bounded set =
      let s : r.step < 2 ^ 63 = omega (arith, n.step) in
      rw (value_bits r.low n.bounds.low_fits, value_bits r.high n.bounds.high_fits, to_z_pos w64 s)

  pub step_fits : SFits w64 (pos r.step)
  step_fits = record { sfits = omega (arith, n.step) }

  pub numbers-settable : r.settable ≡ true → first ∷ second ∷ number ∷ bits r.low ∷ bits r.high ∷ to_z w64 r.step ∷ pos 1 ∷ [] ≡ row_numbers r
  unfolding row_numbers
  numbers-settable e = rw (e, a, b, k) (ap (λ ns. first_index r.indices ∷ second_index r.indices ∷ kind_number r.kind ∷ ns) (bounded (pos 1)))

  pub numbers-fixed : r.settable ≡ false → first ∷ second ∷ number ∷ bits r.low ∷ bits r.high ∷ to_z w64 r.step ∷ pos 0 ∷ [] ≡ row_numbers r
  unfolding row_numbers
  numbers-fixed e = rw (e, a, b, k) (ap (λ ns. first_index r.indices ∷ second_index r.indices ∷ kind_number r.kind ∷ ns) (bounded (pos 0)))

pub ruleset numbering = (step_fits, numbers-settable, numbers-fixed)

-- ---- over a table

module _ (t : List ℕ) (b : Bool) (e : b ≡ sound t) where
  pub passed : not b ≡ false → sound t ≡ true
  passed n = sym e ∙ not-false b n

  over_sound : {A : Type 0} (zeros : List A) (a : Told A) → not b ≡ false → over_table zeros t a ≡ a
  unfolding over_table
  over_sound zeros a n = rw (passed n) refl

  over_unsound : {A : Type 0} (zeros : List A) (a : Told A) → not b ≡ true → over_table zeros t a ≡ tells 1 zeros
  unfolding over_table
  over_unsound zeros a n = rw (sym e ∙ not-true b n) refl

  -- how many values
  pub count_refused : not b ≡ true → tells 1 (0 ∷ []) ≡ count_answer t
  unfolding count_answer
  count_refused n = sym (over_unsound (0 ∷ []) (tells 0 (length (parameters t) ∷ [])) n)

  pub count_told : (n : ℕ) → not b ≡ false → n ≡ length (parameters t) → tells 0 (n ∷ []) ≡ count_answer t
  unfolding count_answer
  count_told n p q = ap (λ k. tells 0 (k ∷ [])) q ∙ sym (over_sound (0 ∷ []) (tells 0 (length (parameters t) ∷ [])) p)

  -- a row
  module _ (n j : ℕ) where
    pub place-refused : not b ≡ true → tells 1 (0 ∷ []) ≡ place_answer t n j
    unfolding place_answer
    place-refused h = sym (over_unsound (0 ∷ []) _ h)

    pub row_refused : not b ≡ true → tells 1 (pos 0 ∷ pos 0 ∷ pos 0 ∷ pos 0 ∷ pos 0 ∷ pos 0 ∷ pos 0 ∷ []) ≡ row_answer t n j
    unfolding row_answer seven_zeros
    row_refused h = sym (over_unsound seven_zeros _ h)

    module _ (f : Option Parameter) (q : f ≡ by_row t n j) (h : not b ≡ false) where
      pub place_none : f ≡ None → tells 9 (0 ∷ []) ≡ place_answer t n j
      unfolding place_answer of_row
      place_none z = rw (sym q ∙ z) (sym (over_sound (0 ∷ []) _ h))

      pub row_none : f ≡ None → tells 9 (pos 0 ∷ pos 0 ∷ pos 0 ∷ pos 0 ∷ pos 0 ∷ pos 0 ∷ pos 0 ∷ []) ≡ row_answer t n j
      unfolding row_answer seven_zeros of_row
      row_none z = rw (sym q ∙ z) (sym (over_sound seven_zeros _ h))

      module _ (p : Parameter) (z : f ≡ Some p) where
        stands : parameter_at (parameters t) (place p) ≡ Some p
        stands = (by_row-told t n j p (sym q ∙ z)).listed

        pub place-told : tells 0 ((p.owner.first + p.number) ∷ []) ≡ place_answer t n j
        unfolding place_answer of_row
        place-told = rw (sym q ∙ z, ← place_is p) (sym (over_sound (0 ∷ []) _ h))

        pub place-fits : Fits w64 (p.owner.first + p.number)
        place-fits = record { fits = omega (arith, place_is p, place-few t (passed h) (place p) p stands) }

        pub row_told : (ns : List ℤ) → ns ≡ row_numbers p.row → tells 0 ns ≡ row_answer t n j
        unfolding row_answer of_row
        row_told ns g = rw (sym q ∙ z) (ap (tells 0) g ∙ sym (over_sound seven_zeros _ h))

        pub row_narrow : Narrow p.row
        row_narrow =
            let s = every-parameter sized_row all_sized t (passed h) (place p) p stands in
            record {
              indices = narrow-indices p.row.indices (row_indices p.row s);
              bounds = parameter_fits t (passed h) (place p) p stands;
              step = ltb-true p.row.step (2 ^ 32) (every-parameter narrow all_narrow t (passed h) (place p) p stands);
            }

pub ruleset telling =
    (passed, count_refused, count_told, place-refused, place_none, place-told, place-fits, row_refused, row_none, row_told, row_narrow)

-- ---- the start values

module _ (t : List ℕ) (vs : List ℤ) (b : Bool) (e : b ≡ sound t) where
  pub starts-unsound : not b ≡ true → tells 1 vs ≡ starts_answer t vs
  unfolding starts_answer starts_number
  starts-unsound n =
      let z : starts_number t vs ≡ 1 = first_by (stops (table_refused t (sym e ∙ not-true b n))) in
      rw z

  module _ (h : not b ≡ false) (count : ℕ) (c : count ≡ length (parameters t)) where
    table_right : table_number t ≡ 0
    table_right = table_passed t (sym e ∙ not-false b h)

    pub starts-uncounted : (length vs ≡ count → ⊥) → tells 2 vs ≡ starts_answer t vs
    unfolding starts_answer starts_number count_number
    starts-uncounted d =
        let w : count_number t vs ≡ 2 = test_refused _ 2 (ne_eqb (length vs) (length (parameters t)) (λ q. d (q ∙ sym c))) in
        let z : starts_number t vs ≡ 2 = first_by (passes table_right (stops w)) in
        rw z

    pub starts-room : count ≤ length vs → length (starts t) ≤ length vs
    starts-room l = omega (arith, length-starts t)

    module _ (q : length vs ≡ count) where
      pub starts-fill : length (starts t) ≤ length vs
      starts-fill = omega (arith, length-starts t)

      pub starts-told : (r : ℕ) (vs' : List ℤ) → Started t vs r vs' → tells 0 vs' ≡ starts_answer t vs
      unfolding starts_answer starts_number count_number
      starts-told r vs' s =
          let w : count_number t vs ≡ 0 = test_passed _ 2 (eq-eqb (length vs) (length (parameters t)) (q ∙ c)) in
          let z : starts_number t vs ≡ 0 = first_by (passes table_right (passes w all)) in
          let o : length vs ≤ length (starts t) = omega (arith, length-starts t) in
          let l : vs' ≡ starts t = s.list ∙ ap (λ rest. starts t ++ rest) (drop_of_length-le vs o) ∙ append-nil (starts t) in
          rw (z, l)

pub ruleset starting = (passed, starts-unsound, starts-uncounted, starts-room, starts-fill, starts-told)
