-- What a test of parameters with their values shows of each, and when two such tests are one.
use Rattle.std.specs.Prelude.{◌≡◌, refl, Bool, true, ◌&&◌, ℤ, pos, length, get_or, Some}
use Rattle.std.proofs.Math.Path.{ap}
use Rattle.std.proofs.Common.{sym, ◌∙◌, le_of_suc-le-suc, not-suc-le-zero}
use mathlib.Core.List.{List, [], ◌∷◌}
use Prim.Native.Nat.{ℕ, zero, suc, ◌≤◌}
use Rattle.text.specs.Every.Laws.{both_left, both_right}
use Rattle.values.specs.Parameters.{parameter_at}
use Rattle.values.specs.Parameters.Owned.{Owned}
use Rattle.values.specs.Parameters.Places.{found-same, never_found}
use Rattle.values.specs.Values.Each.{Tests}
use Rattle.room.specs.declared.table.Module.{Module}
use Rattle.values.specs.declared.parameter.Parameter.{Parameter}

module _ {f : List Parameter → List ℤ → Bool} {test : Parameter → ℤ → Bool} (r : Tests f test) where
  -- where the whole passes, each value does
  pub tested_at : (ps : List Parameter) (vs : List ℤ) (k : ℕ) (p : Parameter) → length ps ≤ length vs → f ps vs ≡ true → parameter_at ps k ≡ Some p
      → test p (get_or vs k (pos 0)) ≡ true
  unfolding parameter_at
  tested_at [] vs k p l h e = never_found p e
  tested_at (q ∷ ps) [] k p l h e = absurd (not-suc-le-zero l)
  tested_at (q ∷ ps) (v ∷ vs) zero p l h e =
      ap (λ (x : Parameter). test x v) (sym (found-same q p e)) ∙ both_left (test q v) (f ps vs) (rw (r.one q ps v vs) at h)
  tested_at (q ∷ ps) (v ∷ vs) (suc k) p l h e = tested_at ps vs k p (le_of_suc-le-suc l) (both_right (test q v) (f ps vs) (rw (r.one q ps v vs) at h)) e

  -- where each does, the whole passes
  pub tested_all : (ps : List Parameter) (vs : List ℤ) → length ps ≤ length vs
      → ((k : ℕ) (p : Parameter) → parameter_at ps k ≡ Some p → test p (get_or vs k (pos 0)) ≡ true) → f ps vs ≡ true
  unfolding parameter_at
  tested_all [] vs l h = r.none vs
  tested_all (p ∷ ps) [] l h = absurd (not-suc-le-zero l)
  tested_all (p ∷ ps) (v ∷ vs) l h = rw (r.one p ps v vs, h 0 p refl) (tested_all ps vs (le_of_suc-le-suc l) (λ k q e. h (suc k) q e))

  -- two tests that agree on a module's parameters
  pub tested_alike : {g : List Parameter → List ℤ → Bool} {other : Parameter → ℤ → Bool} → Tests g other → (m : Module)
      → ((p : Parameter) (v : ℤ) → p.owner ≡ m → test p v ≡ other p v)
      → (ps : List Parameter) (vs : List ℤ) → Owned m ps → length ps ≤ length vs → f ps vs ≡ g ps vs
  tested_alike {g} {other} s m same [] vs o l = r.none vs ∙ sym (s.none vs)
  tested_alike {g} {other} s m same (p ∷ ps) [] o l = absurd (not-suc-le-zero l)
  tested_alike {g} {other} s m same (p ∷ ps) (v ∷ vs) o l =
      rw (r.one p ps v vs, s.one p ps v vs, same p v o.0)
      (ap (λ (b : Bool). other p v && b) (tested_alike s m same ps vs o.1 (le_of_suc-le-suc l)))
