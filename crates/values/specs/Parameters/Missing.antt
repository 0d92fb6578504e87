-- When the numbers of a module and of a row name no parameter.
use Rattle.std.specs.Prelude.{◌≡◌, ◌↔◌, List, [], ◌∷◌, ℕ, zero, suc, ◌≤◌, length, Option, Some, None}
use Rattle.std.proofs.Math.Path.{refl, ap}
use Rattle.std.proofs.Common.{◌∙◌, arith}
use Rattle.catalogue.specs.Catalogue.{rows_of}
use Rattle.room.specs.Table.{module_at, modules}
use Rattle.room.specs.declared.table.Module.{Module}
use Rattle.values.specs.Parameters.{by_row, parameter_at, parameters_of, row_at}
use Rattle.values.specs.Parameters.Laws.{length-parameters_of}
use Rattle.values.specs.declared.parameter.Parameter.{Parameter}

-- no module has the number, or the one that has it has no such row
pub data Missing (t : List ℕ) (owner row : ℕ) : Type 0 where
  no_module : module_at (modules t) owner ≡ None → Missing t owner row
  no_row : (m : Module) → module_at (modules t) owner ≡ Some m → length (rows_of m.layout) ≤ row → Missing t owner row

past_end : (ps : List Parameter) (j : ℕ) → parameter_at ps j ≡ None → length ps ≤ j
unfolding parameter_at
past_end [] j e = omega arith
past_end (p ∷ ps) zero e = absurd (let z : ◌≡◌ {A = ℕ} 0 1 = cc in omega arith)
past_end (p ∷ ps) (suc j) e = let h = past_end ps j e in omega arith

nothing_past : (ps : List Parameter) (j : ℕ) → length ps ≤ j → parameter_at ps j ≡ None
unfolding parameter_at
nothing_past [] j h = refl
nothing_past (p ∷ ps) zero h = absurd (omega arith)
nothing_past (p ∷ ps) (suc j) h = nothing_past ps j (omega arith)

module _ (t : List ℕ) (n j : ℕ) where
  told : by_row t n j ≡ None → Missing t n j
  unfolding by_row row_at
  told e = go (module_at (modules t) n) refl e
    where
      go : (f : Option Module) → module_at (modules t) n ≡ f → row_at f j ≡ None → Missing t n j
      go (Some m) q h = no_row m q (omega (arith, past_end (parameters_of m) j h, length-parameters_of m))
      go None q h = no_module q

  back : Missing t n j → by_row t n j ≡ None
  unfolding by_row row_at
  back (no_module q) = ap (λ (f : Option Module). row_at f j) q
  back (no_row m q h) = ap (λ (f : Option Module). row_at f j) q ∙ nothing_past (parameters_of m) j (omega (arith, length-parameters_of m))

  pub exactly_missing : (by_row t n j ≡ None) ↔ Missing t n j
  exactly_missing = (told, back)
