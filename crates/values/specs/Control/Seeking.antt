-- Rules for the code that finds what index groups name.
use Rattle.std.specs.Prelude.{◌≡◌, refl, Bool, true, false, cond, not, ◌&&◌, ℕ, ◌≤◌, ◌<◌, eqb, leb, Option, Some, None}
use Rattle.std.proofs.Common.{sym, ◌∙◌, eq-eqb, le-leb, ne_eqb}
use Rattle.std.proofs.lemmas.Bool.{lt-leb, not-false, not-true}
use Rattle.catalogue.specs.declared.groups.Group.{Group}
use Rattle.catalogue.specs.declared.groups.Group.TheVariants.{Single, Pair}
use Rattle.catalogue.specs.declared.groups.Groups.{Groups}
use Rattle.catalogue.specs.declared.groups.Groups.TheVariants.{OneGroup, TwoGroups}
use Rattle.catalogue.specs.declared.groups.Part.{Part}
use Rattle.catalogue.specs.declared.groups.Part.TheVariants.{Whole, Output}
use Rattle.catalogue.specs.declared.row.Indices.{Indices}
use Rattle.catalogue.specs.declared.row.Indices.TheVariants as row
use Rattle.catalogue.specs.declared.row.Kind.{Kind}
use Rattle.catalogue.specs.declared.row.Kind.TheVariants.{Level, Switch, Number, Word}
use Rattle.room.specs.declared.table.Module.{Module}
use Rattle.values.specs.Control.{is_word, whole, crosspoint, named}
use Rattle.values.specs.Parameters.{parameters_of, with_indices}
use Rattle.values.specs.declared.parameter.Parameter.{Parameter}

-- ---- what was found

module _ (f : Option Parameter) where
  pub whole-found : (p : Parameter) → f ≡ Some p → Some (p, Whole) ≡ whole f
  unfolding whole
  whole-found p e = rw e

  pub whole-missing : f ≡ None → None ≡ whole f
  unfolding whole
  whole-missing e = rw e

pub ruleset whole-rules = (whole-found, whole-missing)

pub word-word : (k : Kind) → k ≡ Word → true ≡ is_word k
unfolding is_word
word-word k e = rw e

pub word_other : (k : Kind) → (k ≡ Word → ⊥) → false ≡ is_word k
unfolding is_word
word_other Level h = refl
word_other Switch h = refl
word_other Number h = refl
word_other Word h = absurd (h refl)

pub ruleset word-rules = (word-word, word_other)

both_false : (a b : Bool) → b ≡ false → (a && b) ≡ false
both_false true b e = e
both_false false b e = refl

module _ (outputs o : ℕ) (f : Option Parameter) where
  pub point_missing : f ≡ None → None ≡ crosspoint outputs o f
  unfolding crosspoint
  point_missing e = rw e

  module _ (p : Parameter) (e : f ≡ Some p) (t : Bool) (w : t ≡ is_word p.row.kind) where
    by : (b : Bool) → (is_word p.row.kind && (leb 1 o && leb o outputs)) ≡ b → crosspoint outputs o f ≡ cond b (Some (p, Output o)) None
    unfolding crosspoint
    by b h = rw (e, h)

    pub point_other : not t ≡ true → None ≡ crosspoint outputs o f
    point_other h =
        let k : is_word p.row.kind ≡ false = sym w ∙ not-true t h in
        sym (by false (rw k))

    pub point_zero : o < 1 → None ≡ crosspoint outputs o f
    point_zero h =
        let k : leb 1 o ≡ false = lt-leb 1 o h in
        sym (by false (both_false (is_word p.row.kind) (leb 1 o && leb o outputs) (rw k)))

    pub point_past : outputs < o → None ≡ crosspoint outputs o f
    point_past h =
        let k : leb o outputs ≡ false = lt-leb o outputs h in
        sym (by false (both_false (is_word p.row.kind) (leb 1 o && leb o outputs) (both_false (leb 1 o) (leb o outputs) k)))

    pub point_found : not t ≡ false → 1 ≤ o → o ≤ outputs → Some (p, Output o) ≡ crosspoint outputs o f
    point_found h some most =
        let k : is_word p.row.kind ≡ true = sym w ∙ not-false t h in
        sym (by true (rw (k, le-leb 1 o some, le-leb o outputs most)))

pub ruleset point_rules = (point_missing, point_other, point_zero, point_past, point_found)

-- the part of what was found
unfoldable pub part_found : (outputs : ℕ) → Part → Option Parameter → Option (Parameter × Part)
part_found outputs Whole f = whole f
part_found outputs (Output o) f = crosspoint outputs o f

module _ (outputs : ℕ) (part : Part) (f : Option Parameter) (r : Option (Parameter × Part)) where
  pub found-whole : part ≡ Whole → r ≡ whole f → r ≡ part_found outputs part f
  unfolding part_found
  found-whole e h = h ∙ rw e

  pub found-output : (o : ℕ) → part ≡ Output o → r ≡ crosspoint outputs o f → r ≡ part_found outputs part f
  unfolding part_found
  found-output o e h = h ∙ rw e

pub ruleset part-rules = (found-whole, found-output)

-- ---- what is sought

-- two groups of which the second is a pair seek an output of the routing word 3>input where the first is 4
unfoldable pub sought_pair : (first input output : ℕ) → Option (Indices × Part)
sought_pair a i o = cond (eqb a 4) (Some (row.TwoGroups 3 i, Output o)) None

pub pair_four : (a i o : ℕ) → a ≡ 4 → Some (row.TwoGroups 3 i, Output o) ≡ sought_pair a i o
unfolding sought_pair
pair_four a i o e = rw (eq-eqb a 4 e)

pub pair_other : (a i o : ℕ) → (a ≡ 4 → ⊥) → None ≡ sought_pair a i o
unfolding sought_pair
pair_other a i o e = rw (ne_eqb a 4 e)

pub ruleset pair_rules = (pair_four, pair_other)

unfoldable pub sought_by : Groups → Option (Indices × Part)
sought_by (OneGroup (Single a)) = Some (row.OneGroup a, Whole)
sought_by (OneGroup (Pair a b)) = None
sought_by (TwoGroups (Single a) (Single b)) = Some (row.TwoGroups a b, Whole)
sought_by (TwoGroups (Single a) (Pair i o)) = sought_pair a i o
sought_by (TwoGroups (Pair a b) g) = None

module _ (i : Groups) where
  module _ (g : Group) (e : i ≡ OneGroup g) where
    pub one_number : (a : ℕ) → g ≡ Single a → Some (row.OneGroup a, Whole) ≡ sought_by i
    unfolding sought_by
    one_number a k = rw (e, k)

    pub one_pair : (a b : ℕ) → g ≡ Pair a b → None ≡ sought_by i
    unfolding sought_by
    one_pair a b k = rw (e, k)

  module _ (g h : Group) (e : i ≡ TwoGroups g h) where
    pub two_numbers : (a b : ℕ) → g ≡ Single a → h ≡ Single b → Some (row.TwoGroups a b, Whole) ≡ sought_by i
    unfolding sought_by
    two_numbers a b k l = rw (e, k, l)

    pub second_pair : (a b c : ℕ) (s : Option (Indices × Part)) → g ≡ Single a → h ≡ Pair b c → s ≡ sought_pair a b c → s ≡ sought_by i
    unfolding sought_by
    second_pair a b c s k l m = m ∙ rw (e, k, l)

    pub first-pair : (a b : ℕ) → g ≡ Pair a b → None ≡ sought_by i
    unfolding sought_by
    first-pair a b k = rw (e, k)

pub ruleset sought_rules = (one_number, one_pair, two_numbers, second_pair, first-pair)

-- ---- what is sought in a module

-- what is found for it
unfoldable found : Module → Option (Indices × Part) → Option (Parameter × Part)
found m (Some (i, part)) = part_found m.layout.outputs part (with_indices i (parameters_of m))
found m None = None

pair_found : (m : Module) (a i o : ℕ) (b : Bool) → eqb a 4 ≡ b
    → cond b (crosspoint m.layout.outputs o (with_indices (row.TwoGroups 3 i) (parameters_of m))) None ≡ found m (cond b (Some (row.TwoGroups 3 i, Output o)) None)
unfolding found part_found
pair_found m a i o true e = refl
pair_found m a i o false e = refl

named-found : (m : Module) (i : Groups) → named m i ≡ found m (sought_by i)
unfolding named sought_by sought_pair found part_found
named-found m (OneGroup (Single a)) = refl
named-found m (OneGroup (Pair a b)) = refl
named-found m (TwoGroups (Single a) (Single b)) = refl
named-found m (TwoGroups (Single a) (Pair i o)) = pair_found m a i o (eqb a 4) refl
named-found m (TwoGroups (Pair a b) g) = refl

module _ (m : Module) (i : Groups) (s : Option (Indices × Part)) (e : s ≡ sought_by i) where
  pub named-row : (j : Indices) (part : Part) (f : Option Parameter) (r : Option (Parameter × Part)) → s ≡ Some (j, part) → f ≡ with_indices j (parameters_of m)
      → r ≡ part_found m.layout.outputs part f → r ≡ named m i
  unfolding found
  named-row j part f r k h w = w ∙ rw (h, named-found m i, ← e, k)

  pub named-listed : (j : Indices) (part : Part) (r : Option (Parameter × Part)) → s ≡ Some (j, part) → r ≡ part_found m.layout.outputs part (with_indices j (parameters_of m)) → r ≡ named m i
  named-listed j part r k w = named-row j part (with_indices j (parameters_of m)) r k refl w

  pub named-nothing : s ≡ None → None ≡ named m i
  unfolding found
  named-nothing k = rw (named-found m i, ← e, k)

pub ruleset naming = (named-row, named-listed, named-nothing)
