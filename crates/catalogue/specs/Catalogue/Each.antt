-- What one test shows of every row of the catalogue holds of every row of a type.
use Rattle.std.specs.Prelude.{◌≡◌, refl, Bool, true, false, cond, List, [], ◌∷◌, ℕ, eqb}
use Rattle.std.proofs.Common.{eqb-true}
use Rattle.text.specs.Every.Laws.{every-both, every_more, every-nil}
use Rattle.text.specs.Every.{every}
use Rattle.catalogue.specs.declared.table.Entry.{Entry}
use Rattle.catalogue.specs.Catalogue.{rows_in}
use Rattle.catalogue.specs.declared.row.Row.{Row}

-- what holds of every entry of a table holds of the rows of each type
pub rows_tested : (test : Entry → Bool) (owner : ℕ) (tests : Row → Bool)
    → ((e : Entry) → e.owner ≡ owner → test e ≡ true → tests e.row ≡ true)
    → (es : List Entry) → every test es ≡ true → every tests (rows_in owner es) ≡ true
unfolding rows_in
rows_tested test owner tests says [] h = every-nil tests
rows_tested test owner tests says (e ∷ es) h =
    let k = every-both test e es h in
    go (eqb e.owner owner) refl k.0 (rows_tested test owner tests says es k.1)
  where
    go : (b : Bool) → eqb e.owner owner ≡ b → test e ≡ true → every tests (rows_in owner es) ≡ true
        → every tests (cond b (e.row ∷ rows_in owner es) (rows_in owner es)) ≡ true
    go true s p q = every_more tests e.row (rows_in owner es) (says e (eqb-true e.owner owner s) p) q
    go false s p q = q

-- a test of rows, as one of entries
abbrev pub entry_test : (Row → Bool) → Entry → Bool
entry_test test e = test e.row

pub every-type : (test : Row → Bool) (owner : ℕ) (es : List Entry) → every (entry_test test) es ≡ true → every test (rows_in owner es) ≡ true
every-type test owner es h = rows_tested (entry_test test) owner test (λ e o k. k) es h
