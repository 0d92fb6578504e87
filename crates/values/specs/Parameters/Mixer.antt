-- The parameter of a mixer whose row has given indices, by the number of that row.
use Rattle.std.specs.Prelude.{◌≡◌, refl, Bool, true, false, cond, List, [], ◌∷◌, ℕ, zero, suc, ◌+◌, ◌*◌, ◌≤◌, ◌<◌, Some, None}
use Rattle.std.proofs.Math.Path.{sym}
use Rattle.std.proofs.Common.{ap, ◌∙◌}
use native.Mathlib.Omega.{arith}
use Rattle.std.proofs.Math.ListN.{length, get_or}
use Rattle.catalogue.specs.Catalogue.{fixed, known_layout, no_row, rows_of}
use Rattle.catalogue.specs.Catalogue.Laws.{kind-mixer, mixer-counts, mixer_row-of, mixer_rows_lem, over_size, rows_at}
use Rattle.catalogue.specs.Mixer.{mixer_row, mixer_rows, row_number}
use Rattle.catalogue.specs.Mixer.Named.{number-first, number-later}
use Rattle.catalogue.specs.Mixer.Taking.{number-within}
use Rattle.catalogue.specs.Row.{same_indices}
use Rattle.values.specs.Parameters.{numbered, parameters_of, with_indices}
use Rattle.catalogue.specs.declared.row.Indices.{Indices}
use Rattle.catalogue.specs.declared.row.Row.{Row}
use Rattle.room.specs.declared.table.Module.{Module}

-- the parameter with the indices is the one with the number of the row that has them; there is none where no row has them
found_at : (m : Module) (i : Indices) (d : Row) (n : ℕ) (rs : List Row) (k : ℕ) → row_number i rs ≡ k → k < length rs
    → with_indices i (numbered m n rs) ≡ Some (record { owner = m; number = n + k; row = get_or rs k d })
unfolding numbered with_indices
found_at m i d n [] k e l = absurd (omega arith)
found_at m i d n (r ∷ rs) k e l = go (same_indices r.indices i) refl k e l (λ j. found_at m i d (n + 1) rs j)
  where
    go : (b : Bool) → same_indices r.indices i ≡ b → (k : ℕ) → row_number i (r ∷ rs) ≡ k → k < length (r ∷ rs)
        → ((j : ℕ) → row_number i rs ≡ j → j < length rs → with_indices i (numbered m (n + 1) rs) ≡ Some (record { owner = m; number = n + 1 + j; row = get_or rs j d }))
        → cond b (Some (record { owner = m; number = n; row = r })) (with_indices i (numbered m (n + 1) rs)) ≡ Some (record { owner = m; number = n + k; row = get_or (r ∷ rs) k d })
    go true s zero h b later = let z : n ≡ n + 0 = omega arith in ap (λ j. Some (record { owner = m; number = j; row = r })) z
    go true s (suc k) h b later = absurd (omega (arith, number-first i r rs s))
    go false s zero h b later = absurd (omega (arith, number-later i r rs s))
    go false s (suc k) h b later =
        let z : n + 1 + k ≡ n + suc k = omega arith in
        later k (omega (arith, number-later i r rs s)) (omega arith) ∙ ap (λ j. Some (record { owner = m; number = j; row = get_or rs k d })) z

found_none : (m : Module) (i : Indices) (n : ℕ) (rs : List Row) → length rs ≤ row_number i rs → with_indices i (numbered m n rs) ≡ None
unfolding numbered with_indices
found_none m i n [] l = refl
found_none m i n (r ∷ rs) l = go (same_indices r.indices i) refl (found_none m i (n + 1) rs)
  where
    go : (b : Bool) → same_indices r.indices i ≡ b → (length rs ≤ row_number i rs → with_indices i (numbered m (n + 1) rs) ≡ None)
        → cond b (Some (record { owner = m; number = n; row = r })) (with_indices i (numbered m (n + 1) rs)) ≡ None
    go true s later = absurd (omega (arith, number-first i r rs s))
    go false s later = later (omega (arith, number-later i r rs s))

-- ---- rules for the code

module _ (m : Module) (i : Indices) (number : ℕ) (k : known_layout m.layout ≡ true) (o : fixed m.layout.kind ≡ false) (h : number ≡ row_number i (mixer_rows m.layout.inputs m.layout.outputs)) where
  e : m.layout.kind ≡ 7
  e = kind-mixer m.layout k o

  counted : row_number i (rows_of m.layout) ≡ number
  counted = rw (mixer_rows_lem m.layout e) (sym h)

  pub mixer-found : (r : Row) → number < 3 * m.layout.inputs + 2 * m.layout.outputs → r ≡ mixer_row m.layout.inputs m.layout.outputs number
      → Some (record { owner = m; number = number; row = r }) ≡ with_indices i (parameters_of m)
  unfolding parameters_of
  mixer-found r l g =
      let inside : number < length (rows_of m.layout) = omega (arith, mixer-counts m.layout e) in
      let row_is : r ≡ get_or (rows_of m.layout) number no_row = g ∙ sym (mixer_row-of m.layout e number inside) ∙ sym (rows_at m.layout number no_row inside) in
      let z : number ≡ 0 + number = omega arith in
      sym (found_at m i no_row 0 (rows_of m.layout) number counted inside ∙ rw (← z, ← row_is))

  pub mixer-missing : 3 * m.layout.inputs + 2 * m.layout.outputs ≤ number → None ≡ with_indices i (parameters_of m)
  unfolding parameters_of
  mixer-missing l = sym (found_none m i 0 (rows_of m.layout) (omega (arith, counted, mixer-counts m.layout e)))

pub ruleset mixed = (over_size, mixer-found, mixer-missing, number-within)
