-- The walk over a table's records with a list of values: whether there is one for each parameter, and each passes a test.
use Rattle.std.specs.Prelude.{◌≡◌, refl, Bool, true, false, ◌&&◌, List, [], ◌∷◌, ◌++◌, ℕ, ◌+◌, ◌-◌, ◌≤◌, ◌<◌, eqb, ℤ, length, get_or, take, drop}
use Rattle.std.proofs.Common.{ap, sym, ◌∙◌, le_of_suc-le-suc, not-suc-le-zero, arith, eq-eqb, eqb-true, ne_eqb, length-drop, drop-drop}
use Rattle.std.proofs.Math.Bool.{and_assoc, and-false}
use Rattle.std.proofs.lemmas.Bool.{eqb-false}
use Rattle.catalogue.specs.Catalogue.{rows_of}
use Rattle.room.specs.Table.{sound}
use Rattle.record.specs.Body.{body_length}
use Rattle.record.specs.Layout.{layout_at}
use Rattle.values.specs.Parameters.{parameters, parameters_of}
use Rattle.values.specs.Parameters.Walk.{Counted, counted-all, counted_next, counted_start, module_count, module_here, parameters_at, parameters-end, parameters-next, parameters-start}
use Rattle.values.specs.declared.parameter.Parameter.{Parameter}

-- f tests each of some parameters with its value
pub record Tests (f : List Parameter → List ℤ → Bool) (test : Parameter → ℤ → Bool) : Type 0 where
  pub none : (vs : List ℤ) → f [] vs ≡ true
  pub one : (p : Parameter) (ps : List Parameter) (v : ℤ) (vs : List ℤ) → f (p ∷ ps) (v ∷ vs) ≡ (test p v && f ps vs)

-- as many values as parameters, and each passes
abbrev pub all_pass : (List Parameter → List ℤ → Bool) → List ℕ → List ℤ → Bool
all_pass f t vs = eqb (length vs) (length (parameters t)) && f (parameters t) vs

-- the values of the records so far pass the test
pub record Each (f : List Parameter → List ℤ → Bool) (t : List ℕ) (vs : List ℤ) (number place first : ℕ) : Type 0 where
  pub counted : Counted t number place first
  pub within : first ≤ length vs
  pub rest : f (parameters t) vs ≡ f (parameters_at t number place first) (drop first vs)

module _ (f : List Parameter → List ℤ → Bool) where
  pub each_start : (t : List ℕ) (vs : List ℤ) → sound t ≡ true → Each f t vs 0 0 0
  each_start t vs e = record { counted = counted_start t e; within = omega arith; rest = ap (λ (ps : List Parameter). f ps vs) (parameters-start t) }

  -- two lists of parameters, one after the other
  append : {test : Parameter → ℤ → Bool} → Tests f test → (ps qs : List Parameter) (vs : List ℤ) → length ps ≤ length vs
      → f (ps ++ qs) vs ≡ (f ps (take (length ps) vs) && f qs (drop (length ps) vs))
  append s [] qs vs h = rw (s.none (take 0 vs))
  append s (p ∷ ps) qs [] h = absurd (not-suc-le-zero h)
  append {test} s (p ∷ ps) qs (v ∷ vs) h =
      rw (s.one p (ps ++ qs) v vs, s.one p ps v (take (length ps) vs), append s ps qs vs (le_of_suc-le-suc h))
      (sym (and_assoc (test p v) (f ps (take (length ps) vs)) (f qs (drop (length ps) vs))))

  module _ (t : List ℕ) (vs : List ℤ) (number place first : ℕ) (s : Each f t vs number place first) (l : place < length t) (rows : ℕ) (n : rows ≡ length (rows_of (layout_at t place))) where
    pub each_short : length vs - first < rows → false ≡ all_pass f t vs
    each_short h =
        let c = counted_next t number place first s.counted l (body_length (get_or t place 0)) rows refl n in
        rw (ne_eqb (length vs) (length (parameters t)) (λ e. omega (arith, c.total, s.within)))

    -- b says whether the values of this record pass
    module _ {test : Parameter → ℤ → Bool} (r : Tests f test) (room : rows ≤ length vs - first) (b : Bool)
        (g : f (parameters_of (module_here t number place first)) (take rows (drop first vs)) ≡ b) where
      at-module : (size : ℕ) → size ≡ body_length (get_or t place 0) → f (parameters t) vs ≡ (b && f (parameters_at t (number + 1) (place + 1 + size) (first + rows)) (drop (first + rows) vs))
      at-module size e =
          let here = parameters_of (module_here t number place first) in
          let count = module_count t number place first rows n in
          let long : length here ≤ length (drop first vs) = omega (arith, length-drop first vs, count) in
          s.rest
          ∙ ap (λ (ps : List Parameter). f ps (drop first vs)) (parameters-next t number place first s.counted.walk l size rows e n)
          ∙ append r here _ (drop first vs) long
          ∙ rw (count, g, drop-drop)

      pub each_wrong : b ≡ false → false ≡ all_pass f t vs
      each_wrong h = sym (rw (rw h at (at-module (body_length (get_or t place 0)) refl)) (and-false (eqb (length vs) (length (parameters t)))))

      pub each_next : (size : ℕ) → size ≡ body_length (get_or t place 0) → b ≡ true → Each f t vs (number + 1) (place + 1 + size) (first + rows)
      each_next size e h =
          record { counted = counted_next t number place first s.counted l size rows e n; within = omega (arith, s.within); rest = rw h at (at-module size e) }

  pub each_all : {test : Parameter → ℤ → Bool} → Tests f test → (t : List ℕ) (vs : List ℤ) (number place first : ℕ)
      → Each f t vs number place first → length t ≤ place → eqb first (length vs) ≡ all_pass f t vs
  each_all r t vs number place first s l = rw passed (go (eqb first (length vs)) refl)
    where
      passed : f (parameters t) vs ≡ true
      passed = s.rest ∙ rw (parameters-end t number place first l) (r.none (drop first vs))

      many : first ≡ length (parameters t)
      many = counted-all t number place first s.counted l

      go : (b : Bool) → eqb first (length vs) ≡ b → eqb first (length vs) ≡ (eqb (length vs) (length (parameters t)) && true)
      go true e = rw (e, eq-eqb (length vs) (length (parameters t)) (omega (arith, many, eqb-true first (length vs) e)))
      go false e = rw (e, ne_eqb (length vs) (length (parameters t)) (λ h. eqb-false first (length vs) e (omega (arith, many))))
