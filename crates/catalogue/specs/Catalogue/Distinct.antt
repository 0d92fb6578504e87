-- The rows of a type have distinct indices.
use Rattle.std.specs.Prelude.{◌≡◌, refl, Bool, true, false, cond, not, List, [], ◌∷◌, ℕ, eqb}
use Rattle.std.proofs.Common.{sym, ◌∙◌, eq-eqb, eqb-true}
use Rattle.std.proofs.lemmas.Bool.{not-true}
use Rattle.text.specs.Every.Laws.{pairs-both, pairs-more, pairs-nil}
use Rattle.text.specs.Every.{every, pairs}
use Rattle.catalogue.specs.declared.table.Entry.{Entry}
use Rattle.catalogue.specs.Catalogue.{rows_in}
use Rattle.catalogue.specs.Catalogue.Each.{rows_tested}
use Rattle.catalogue.specs.Catalogue.Rules.{differ}
use Rattle.catalogue.specs.Row.{same_indices}
use Rattle.catalogue.specs.declared.row.Row.{Row}

-- two rows do not have the same indices
unfoldable pub rows_differ : Row → Row → Bool
rows_differ r s = not (same_indices r.indices s.indices)

-- so the test of their indices fails
pub differ-indices : (r s : Row) → rows_differ r s ≡ true → same_indices r.indices s.indices ≡ false
unfolding rows_differ
differ-indices r s h = not-true (same_indices r.indices s.indices) h

differ-rows : (owner : ℕ) (e f : Entry) → e.owner ≡ owner → f.owner ≡ owner → differ e f ≡ true → rows_differ e.row f.row ≡ true
unfolding differ rows_differ
differ-rows owner e f p q h = rw (eq-eqb e.owner f.owner (p ∙ sym q)) at h

pub distinct_rows : (owner : ℕ) (es : List Entry) → pairs differ es ≡ true → pairs rows_differ (rows_in owner es) ≡ true
unfolding rows_in
distinct_rows owner [] h = pairs-nil rows_differ
distinct_rows owner (e ∷ es) h =
    let k = pairs-both differ e es h in
    go (eqb e.owner owner) refl k.0 (distinct_rows owner es k.1)
  where
    go : (b : Bool) → eqb e.owner owner ≡ b → every (differ e) es ≡ true → pairs rows_differ (rows_in owner es) ≡ true
        → pairs rows_differ (cond b (e.row ∷ rows_in owner es) (rows_in owner es)) ≡ true
    go true s p q =
        let o = eqb-true e.owner owner s in
        pairs-more rows_differ e.row (rows_in owner es) (rows_tested (differ e) owner (rows_differ e.row) (λ f. differ-rows owner e f o) es p) q
    go false s p q = q
