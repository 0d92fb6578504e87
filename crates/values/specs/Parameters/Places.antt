-- Laws of parameters: each has its module, its number and its place.
use Rattle.std.specs.Prelude.{◌≡◌, refl, List, [], ◌∷◌, ◌++◌, ℕ, zero, suc, ◌+◌, length, Some, None}
use Rattle.std.proofs.Common.{ap, sym, ◌∙◌, add-zero, zero-add, arith}
use Rattle.catalogue.specs.Catalogue.{rows_of}
use Rattle.values.specs.Parameters.{numbered, parameters_of, parameters_in, parameters, place, parameter_at}
use Rattle.values.specs.Parameters.Laws.{length-parameters_of, parameter_late}
use Rattle.room.specs.Table.{module_at, modules}
use Rattle.room.specs.Table.Modules.{at_first, at_others, modules-induction, no_module, the_first}
use Rattle.catalogue.specs.declared.row.Row.{Row}
use Rattle.room.specs.declared.table.Module.{Module}
use Rattle.values.specs.declared.parameter.Parameter.{Parameter}

pub found-same : (p q : Parameter) → Some p ≡ Some q → p ≡ q
found-same p q e = cc

pub never_found {ℓ} : {A : Type ℓ} (p : Parameter) → None ≡ Some p → A
never_found p e = absurd (let z : ◌≡◌ {A = ℕ} 0 1 = cc in omega arith)

-- ---- a list of parameters

pub at_left : (ps qs : List Parameter) (k : ℕ) (p : Parameter) → parameter_at ps k ≡ Some p → parameter_at (ps ++ qs) k ≡ Some p
unfolding parameter_at
at_left [] qs k p e = never_found p e
at_left (q ∷ ps) qs zero p e = e
at_left (q ∷ ps) qs (suc k) p e = at_left ps qs k p e

-- parameter k of two lists is one of the first, or of the second
pub data Side (ps qs : List Parameter) (k : ℕ) (p : Parameter) : Type 0 where
  earlier : parameter_at ps k ≡ Some p → Side ps qs k p
  later : (j : ℕ) → k ≡ length ps + j → parameter_at qs j ≡ Some p → Side ps qs k p

pub at_side : (ps qs : List Parameter) (k : ℕ) (p : Parameter) → parameter_at (ps ++ qs) k ≡ Some p → Side ps qs k p
unfolding parameter_at
at_side [] qs k p e = later k (sym (zero-add k)) e
at_side (q ∷ ps) qs zero p e = earlier e
at_side (q ∷ ps) qs (suc k) p e = further (at_side ps qs k p e)
  where
    further : Side ps qs k p → Side (q ∷ ps) qs (suc k) p
    further (earlier h) = earlier h
    further (later j n h) = later j (omega arith) h

-- ---- a module's parameters

-- p is the module m's, and is number n there
pub record Numbered (m : Module) (n : ℕ) (p : Parameter) : Type 0 where
  pub owner : p.owner ≡ m
  pub number : p.number ≡ n

pub at-numbered : (m : Module) (n : ℕ) (rs : List Row) (j : ℕ) (p : Parameter) → parameter_at (numbered m n rs) j ≡ Some p → Numbered m (n + j) p
unfolding numbered parameter_at
at-numbered m n [] j p e = never_found p e
at-numbered m n (r ∷ rs) zero p e =
    let s = found-same (record { owner = m; number = n; row = r }) p e in
    record { owner = sym (ap (λ q. q.owner) s); number = sym (ap (λ q. q.number) s) ∙ sym (add-zero n) }
at-numbered m n (r ∷ rs) (suc j) p e =
    let h = at-numbered m (n + 1) rs j p e in
    record { owner = h.owner; number = omega arith }

pub at_own : (m : Module) (j : ℕ) (p : Parameter) → parameter_at (parameters_of m) j ≡ Some p → Numbered m j p
unfolding parameters_of
at_own m j p e = rw (zero-add j) at (at-numbered m 0 (rows_of m.layout) j p e)

-- ---- the parameters of a table

-- a parameter stands at its place, is one of its module's by its number, and its module is one of the list
pub record Placed (ms : List Module) (k : ℕ) (p : Parameter) : Type 0 where
  pub stands : place p ≡ k
  pub own : parameter_at (parameters_of p.owner) p.number ≡ Some p
  pub module_number : ℕ
  pub among : module_at ms module_number ≡ Some p.owner

-- a parameter of the first module, and of a later one
placed_first : (m : Module) (ms : List Module) (k : ℕ) (p : Parameter) → parameter_at (parameters_of m) k ≡ Some p → Placed (m ∷ ms) (m.first + k) p
unfolding place
placed_first m ms k p e =
    let h = at_own m k p e in
    record { stands = rw (h.owner, h.number) refl; own = cc; module_number = 0; among = at_first m ms ∙ ap Some (sym h.owner) }

placed-later : (m : Module) (ms : List Module) (k : ℕ) (p : Parameter) → Placed ms k p → Placed (m ∷ ms) k p
placed-later m ms k p h =
    record { stands = h.stands; own = h.own; module_number = suc h.module_number; among = at_others m ms h.module_number ∙ h.among }

-- each parameter of some modules, whose values begin at a number
abbrev AllPlaced : (first : ℕ) → List Module → Type 0
AllPlaced first ms = (k : ℕ) (p : Parameter) → parameter_at (parameters_in ms) k ≡ Some p → Placed ms (first + k) p

placed-none : (first : ℕ) → AllPlaced first []
unfolding parameters_in parameter_at
placed-none first k p e = never_found p e

placed-more : (m : Module) (ms : List Module) → AllPlaced (m.first + length (rows_of m.layout)) ms → AllPlaced m.first (m ∷ ms)
unfolding parameters_in
placed-more m ms below k p e = go (at_side (parameters_of m) (parameters_in ms) k p e)
  where
    go : Side (parameters_of m) (parameters_in ms) k p → Placed (m ∷ ms) (m.first + k) p
    go (earlier h) = placed_first m ms k p h
    go (later j n h) =
        let e : m.first + length (rows_of m.layout) + j ≡ m.first + k = omega (arith, length-parameters_of m) in
        placed-later m ms (m.first + k) p (rw e at (below j p h))

pub at_place : (t : List ℕ) (k : ℕ) (p : Parameter) → parameter_at (parameters t) k ≡ Some p → Placed (modules t) k p
unfolding parameters
at_place t k p e = rw (zero-add k) at (modules-induction AllPlaced placed-none placed-more t k p e)

-- where the parameters of the module m begin
record Begins (m : Module) (first : ℕ) (ps : List Parameter) : Type 0 where
  by : ℕ
  begins : m.first ≡ first + by
  theirs : (j : ℕ) (p : Parameter) → parameter_at (parameters_of m) j ≡ Some p → parameter_at ps (by + j) ≡ Some p

begins_first : (one m : Module) (ps : List Parameter) → one ≡ m → Begins m one.first (parameters_of one ++ ps)
begins_first one m ps e =
    record {
      by = 0;
      begins = ap (λ n. n.first) (sym e) ∙ sym (add-zero one.first);
      theirs = λ j p f. rw (zero-add j) (at_left (parameters_of one) ps j p (ap (λ n. parameter_at (parameters_of n) j) e ∙ f));
    }

begins_later : (one m : Module) (ps : List Parameter) → Begins m (one.first + length (rows_of one.layout)) ps
    → Begins m one.first (parameters_of one ++ ps)
begins_later one m ps b =
    record {
      by = length (parameters_of one) + b.by;
      begins = omega (arith, b.begins, length-parameters_of one);
      theirs = λ j p f.
          let a : length (parameters_of one) + b.by + j ≡ length (parameters_of one) + (b.by + j) = omega arith in
          rw a (parameter_late (parameters_of one) ps (b.by + j) ∙ b.theirs j p f);
    }

abbrev AllBegin : (first : ℕ) → List Module → Type 0
AllBegin first ms = (n : ℕ) (m : Module) → module_at ms n ≡ Some m → Begins m first (parameters_in ms)

begin_none : (first : ℕ) → AllBegin first []
begin_none first n m e = no_module n m e

begin_more : (one : Module) (ms : List Module) → AllBegin (one.first + length (rows_of one.layout)) ms → AllBegin one.first (one ∷ ms)
unfolding parameters_in
begin_more one ms below zero m e = begins_first one m (parameters_in ms) (the_first one m ms e)
begin_more one ms below (suc n) m e = begins_later one m (parameters_in ms) (below n m (sym (at_others one ms n) ∙ e))

-- the parameter j of a module of the table is the table's parameter j on from the module's first
pub at-module : (t : List ℕ) (n : ℕ) (m : Module) (j : ℕ) (p : Parameter) → module_at (modules t) n ≡ Some m
    → parameter_at (parameters_of m) j ≡ Some p → parameter_at (parameters t) (m.first + j) ≡ Some p
unfolding parameters
at-module t n m j p h e =
    let b = modules-induction AllBegin begin_none begin_more t n m h in
    let f : m.first ≡ b.by = omega (arith, b.begins) in
    rw f (b.theirs j p e)
