-- Laws of the value list.
use Rattle.std.specs.Prelude.{◌≡◌, refl, true, List, [], ◌∷◌, ℕ, zero, suc, ◌<◌, eqb, ℤ, pos, negsuc, length, set, get_or, Some}
use Rattle.std.proofs.Common.{ap, sym, ◌∙◌, true≢false, arith, eqb-true, eq-eqb, length-set}
use Rattle.text.specs.Every.Laws.{both_left, both_right}
use Rattle.values.specs.Parameters.{parameters, parameter_at}
use Rattle.values.specs.Parameters.Places.{found-same, never_found}
use Rattle.catalogue.specs.Row.{permitted}
use Rattle.values.specs.Room.{Room, row_in}
use Rattle.values.specs.Values.{each_permitted, equal, values_sound}
use Rattle.values.specs.Values.Each.{Tests}
use Rattle.values.specs.Values.Tested.{tested_all, tested_at}
use Rattle.values.specs.declared.parameter.Parameter.{Parameter}

pub equal-refl : (v : ℤ) → equal v v ≡ true
unfolding equal
equal-refl (pos n) = eq-eqb n n refl
equal-refl (negsuc n) = eq-eqb n n refl

pub equal-true : (v x : ℤ) → equal v x ≡ true → v ≡ x
unfolding equal
equal-true (pos m) (pos n) e = ap pos (eqb-true m n e)
equal-true (pos m) (negsuc n) e = absurd (true≢false (sym e))
equal-true (negsuc m) (pos n) e = absurd (true≢false (sym e))
equal-true (negsuc m) (negsuc n) e = ap negsuc (eqb-true m n e)

-- each value is tested by the row by which it is judged
pub each_tests : (r : Room) → Tests (each_permitted r) (λ p v. permitted (row_in r p) v)
unfolding each_permitted
each_tests r = record { none = λ vs. refl; one = λ p ps v vs. refl }

-- right values are as many as the parameters, and each is permitted
pub values_many : (r : Room) (vs : List ℤ) → values_sound r vs ≡ true → length vs ≡ length (parameters r.table)
unfolding values_sound
values_many r vs s =
    eqb-true (length vs) (length (parameters r.table))
    (both_left (eqb (length vs) (length (parameters r.table))) (each_permitted r (parameters r.table) vs) s)

pub values_each : (r : Room) (vs : List ℤ) → values_sound r vs ≡ true → each_permitted r (parameters r.table) vs ≡ true
unfolding values_sound
values_each r vs s = both_right (eqb (length vs) (length (parameters r.table))) (each_permitted r (parameters r.table) vs) s

pub values_right : (r : Room) (vs : List ℤ) → length vs ≡ length (parameters r.table) → each_permitted r (parameters r.table) vs ≡ true → values_sound r vs ≡ true
unfolding values_sound
values_right r vs n e = rw (eq-eqb (length vs) (length (parameters r.table)) n) e

-- a value that is permitted may be put at its parameter's place
each_set : (r : Room) (ps : List Parameter) (vs : List ℤ) (k : ℕ) (p : Parameter) (x : ℤ) → parameter_at ps k ≡ Some p → permitted (row_in r p) x ≡ true
    → each_permitted r ps vs ≡ true → each_permitted r ps (set vs k x) ≡ true
unfolding each_permitted parameter_at
each_set r [] vs k p x e h v = refl
each_set r (q ∷ ps) [] k p x e h v = refl
each_set r (q ∷ ps) (w ∷ vs) zero p x e h v =
    let s : permitted (row_in r q) x ≡ true = ap (λ o. permitted (row_in r o) x) (found-same q p e) ∙ h in
    rw s (both_right (permitted (row_in r q) w) (each_permitted r ps vs) v)
each_set r (q ∷ ps) (w ∷ vs) (suc k) p x e h v =
    rw (both_left (permitted (row_in r q) w) (each_permitted r ps vs) v) (each_set r ps vs k p x e h (both_right (permitted (row_in r q) w) (each_permitted r ps vs) v))

pub set_sound : (r : Room) (vs : List ℤ) (k : ℕ) (p : Parameter) (x : ℤ) → parameter_at (parameters r.table) k ≡ Some p → permitted (row_in r p) x ≡ true
    → values_sound r vs ≡ true → values_sound r (set vs k x) ≡ true
set_sound r vs k p x e h v =
    values_right r (set vs k x) (length-set vs k x ∙ values_many r vs v) (each_set r (parameters r.table) vs k p x e h (values_each r vs v))

-- the value at a parameter's place is permitted in the room, and a list of such values is right
pub value_permitted : (r : Room) (vs : List ℤ) (k : ℕ) (p : Parameter) → values_sound r vs ≡ true → parameter_at (parameters r.table) k ≡ Some p
    → permitted (row_in r p) (get_or vs k (pos 0)) ≡ true
value_permitted r vs k p v e = tested_at (each_tests r) (parameters r.table) vs k p (omega (arith, values_many r vs v)) (values_each r vs v) e

pub values_permitted : (r : Room) (vs : List ℤ) → length vs ≡ length (parameters r.table)
    → ((k : ℕ) (p : Parameter) → parameter_at (parameters r.table) k ≡ Some p → permitted (row_in r p) (get_or vs k (pos 0)) ≡ true) → values_sound r vs ≡ true
values_permitted r vs n h = values_right r vs n (tested_all (each_tests r) (parameters r.table) vs (omega arith) h)

-- a parameter's place is a place of the value list
pub at-inside : (ps : List Parameter) (k : ℕ) (p : Parameter) → parameter_at ps k ≡ Some p → k < length ps
unfolding parameter_at
at-inside [] k p e = never_found p e
at-inside (q ∷ ps) zero p e = omega arith
at-inside (q ∷ ps) (suc k) p e = let l = at-inside ps k p e in omega arith

pub value_inside : (r : Room) (vs : List ℤ) (k : ℕ) (p : Parameter) → values_sound r vs ≡ true → parameter_at (parameters r.table) k ≡ Some p → k < length vs
value_inside r vs k p v e = omega (arith, values_many r vs v, at-inside (parameters r.table) k p e)
