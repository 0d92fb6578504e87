-- What index groups that name something tell, and each part of a parameter by its own groups.
use Rattle.std.specs.Prelude.{◌≡◌, refl, Bool, true, false, cond, ◌&&◌, ℕ, ◌+◌, ◌≤◌, eqb, leb, Option, Some, None}
use Rattle.std.proofs.Common.{sym, ap, ◌∙◌, arith, eqb-true, leb-true, le-leb}
use Rattle.std.proofs.lemmas.Option.{some_pair_parts}
use Rattle.text.specs.Every.Laws.{both_left, both_right}
use Rattle.catalogue.specs.Catalogue.{known_layout}
use Rattle.catalogue.specs.Groups.{groups_of}
use Rattle.catalogue.specs.Groups.Laws.{one_single, two_singles, two_output}
use Rattle.catalogue.specs.Catalogue.Routed.{routed-indices}
use Rattle.catalogue.specs.declared.groups.Group.TheVariants.{Single, Pair}
use Rattle.catalogue.specs.declared.groups.Groups.{Groups}
use Rattle.catalogue.specs.declared.groups.Groups.TheVariants.{OneGroup, TwoGroups}
use Rattle.catalogue.specs.declared.groups.Part.{Part}
use Rattle.catalogue.specs.declared.groups.Part.TheVariants.{Whole, Output}
use Rattle.catalogue.specs.declared.row.Indices.{Indices}
use Rattle.catalogue.specs.declared.row.Indices.TheVariants as row
use Rattle.catalogue.specs.declared.row.Kind.{Kind}
use Rattle.catalogue.specs.declared.row.Kind.TheVariants.{Level, Switch, Number, Word}
use Rattle.room.specs.declared.table.Module.{Module}
use Rattle.values.specs.Control.{is_word, whole, crosspoint, named}
use Rattle.values.specs.Parameters.{parameters_of, parameter_at, with_indices}
use Rattle.values.specs.Parameters.Named.{indexed-told, indexed-back, word-routed}
use Rattle.values.specs.declared.parameter.Parameter.{Parameter}

-- a part that a parameter has: the whole, or of a routing word one of its module's outputs
pub data PartOf (p : Parameter) : Part → Type 0 where
  all : PartOf p Whole
  output : (o : ℕ) → p.row.kind ≡ Word → 1 ≤ o → o ≤ p.owner.layout.outputs → PartOf p (Output o)

-- the parameter p is the module m's, stands there by its number, and the groups are those of its part
pub record NamedBy (m : Module) (i : Groups) (p : Parameter) (part : Part) : Type 0 where
  pub owner : p.owner ≡ m
  pub own : parameter_at (parameters_of m) p.number ≡ Some p
  pub groups : groups_of p.row.indices part ≡ i
  pub has : PartOf p part

-- ---- what groups tell

nothing_named {ℓ} : {A : Type ℓ} (p : Parameter) (part : Part) → ◌≡◌ {A = Option (Parameter × Part)} None (Some (p, part)) → A
nothing_named p part e = absurd (let z : ◌≡◌ {A = ℕ} 0 1 = cc in omega arith)

whole-told : (m : Module) (i : Indices) (g : Groups) (f : Option Parameter) (p : Parameter) (part : Part) → groups_of i Whole ≡ g
    → with_indices i (parameters_of m) ≡ f → whole f ≡ Some (p, part) → NamedBy m g p part
unfolding whole
whole-told m i g (Some q) p part k f e =
    let both = some_pair_parts q p Whole part e in
    let s = both.0 in
    let w = both.1 in
    let h = indexed-told m i p (f ∙ ap Some s) in
    rw (← w) (record { owner = h.owner; own = h.own; groups = ap (λ j. groups_of j Whole) h.indices ∙ k; has = all })
whole-told m i g None p part k f e = nothing_named p part e

is_word_lem : (k : Kind) → is_word k ≡ true → k ≡ Word
unfolding is_word
is_word_lem Level e = absurd (let z : ◌≡◌ {A = ℕ} 0 1 = cc in omega arith)
is_word_lem Switch e = absurd (let z : ◌≡◌ {A = ℕ} 0 1 = cc in omega arith)
is_word_lem Number e = absurd (let z : ◌≡◌ {A = ℕ} 0 1 = cc in omega arith)
is_word_lem Word e = refl

crosspoint-told : (m : Module) (i o : ℕ) (f : Option Parameter) (p : Parameter) (part : Part) → with_indices (row.TwoGroups 3 i) (parameters_of m) ≡ f
    → crosspoint m.layout.outputs o f ≡ Some (p, part) → NamedBy m (TwoGroups (Single 4) (Pair i o)) p part
unfolding crosspoint
crosspoint-told m i o (Some q) p part f e = go (is_word q.row.kind && (leb 1 o && leb o m.layout.outputs)) refl e
  where
    go : (b : Bool) → (is_word q.row.kind && (leb 1 o && leb o m.layout.outputs)) ≡ b → cond {A = Option (Parameter × Part)} b (Some (q, Output o)) None ≡ Some (p, part)
        → NamedBy m (TwoGroups (Single 4) (Pair i o)) p part
    go true t e =
        let both = some_pair_parts q p (Output o) part e in
        let s = both.0 in
        let w = both.1 in
        let h = indexed-told m (row.TwoGroups 3 i) p (f ∙ ap Some s) in
        let within = both_right (is_word q.row.kind) (leb 1 o && leb o m.layout.outputs) t in
        let some = leb-true 1 o (both_left (leb 1 o) (leb o m.layout.outputs) within) in
        let most = leb-true o m.layout.outputs (both_right (leb 1 o) (leb o m.layout.outputs) within) in
        let kind = ap (λ x. x.row.kind) (sym s) ∙ is_word_lem q.row.kind (both_left (is_word q.row.kind) (leb 1 o && leb o m.layout.outputs) t) in
        let outputs : m.layout.outputs ≡ p.owner.layout.outputs = ap (λ x. x.layout.outputs) (sym h.owner) in
        rw (← w)
        (record {
          owner = h.owner;
          own = h.own;
          groups = ap (λ j. groups_of j (Output o)) h.indices ∙ two_output 3 i o;
          has = output o kind some (omega arith);
        })
    go false t e = nothing_named p part e
crosspoint-told m i o None p part f e = nothing_named p part e

pub named-told : (m : Module) (i : Groups) (p : Parameter) (part : Part) → named m i ≡ Some (p, part) → NamedBy m i p part
unfolding named
named-told m (OneGroup (Single a)) p part e = whole-told m (row.OneGroup a) (OneGroup (Single a)) _ p part (one_single a) refl e
named-told m (OneGroup (Pair a b)) p part e = nothing_named p part e
named-told m (TwoGroups (Single a) (Single b)) p part e = whole-told m (row.TwoGroups a b) (TwoGroups (Single a) (Single b)) _ p part (two_singles a b) refl e
named-told m (TwoGroups (Single a) (Pair i o)) p part e = go (eqb a 4) refl e
  where
    go : (b : Bool) → eqb a 4 ≡ b → cond b (crosspoint m.layout.outputs o (with_indices (row.TwoGroups 3 i) (parameters_of m))) None ≡ Some (p, part)
        → NamedBy m (TwoGroups (Single a) (Pair i o)) p part
    go true t e = rw (eqb-true a 4 t) (crosspoint-told m i o _ p part refl e)
    go false t e = nothing_named p part e
named-told m (TwoGroups (Pair a b) g) p part e = nothing_named p part e

-- ---- each part by its own groups

whole_back : (m : Module) (i : Indices) (p : Parameter) → with_indices i (parameters_of m) ≡ Some p → named m (groups_of i Whole) ≡ Some (p, Whole)
unfolding named whole
whole_back m (row.OneGroup a) p e = rw (one_single a, e)
whole_back m (row.TwoGroups a b) p e = rw (two_singles a b, e)

output_back : (m : Module) (i o : ℕ) (p : Parameter) → with_indices (row.TwoGroups 3 i) (parameters_of m) ≡ Some p → p.row.kind ≡ Word → 1 ≤ o → o ≤ m.layout.outputs
    → named m (groups_of (row.TwoGroups 3 i) (Output o)) ≡ Some (p, Output o)
unfolding named crosspoint is_word
output_back m i o p e k some most =
    rw (two_output 3 i o, e, k, le-leb 1 o some, le-leb o m.layout.outputs most)

pub named_back : (p : Parameter) (part : Part) → known_layout p.owner.layout ≡ true → parameter_at (parameters_of p.owner) p.number ≡ Some p → PartOf p part
    → named p.owner (groups_of p.row.indices part) ≡ Some (p, part)
named_back p part known own all = whole_back p.owner p.row.indices p (indexed-back p.owner p.number p own)
named_back p part known own (output o k some most) =
    let r = word-routed p.owner p.number p known own k in
    let i : p.row.indices ≡ row.TwoGroups 3 (r.input + 1) = routed-indices p.owner.layout p.row r in
    let e = ap (λ j. with_indices j (parameters_of p.owner)) (sym i) ∙ indexed-back p.owner p.number p own in
    ap (λ j. named p.owner (groups_of j (Output o))) i ∙ output_back p.owner (r.input + 1) o p e k some most
