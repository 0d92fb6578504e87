-- The modules of a sound table, one by one.
use Rattle.std.specs.Prelude.{◌≡◌, refl, true, get_or, take, drop, Some, None}
use Rattle.std.proofs.Common.{sym, subst, ◌∙◌, arith, take-take}
use mathlib.Core.List.{List, [], ◌∷◌}
use Prim.Native.Nat.{ℕ, zero, suc, ◌+◌, ◌≤◌, ◌<◌}
use Rattle.std.proofs.Math.ListN.{length}
use Rattle.text.specs.Cut.{before}
use Rattle.catalogue.specs.Catalogue.{known_layout, rows_of}
use Rattle.room.specs.Table.{module_at, modules, modules_from, record_limit, sound}
use Rattle.record.specs.Body.{body_length}
use Rattle.record.specs.Body.Laws.{body_long, sound-body}
use Rattle.record.specs.Layout.{layout_at, layout_of}
use Rattle.record.specs.Field.{label_right}
use Rattle.room.specs.Table.Walk.{Walk, modules_at, modules-end, modules-next, modules-start, record_inside, walk_body, walk_induction, walk_known, walk_start}
use Rattle.room.specs.declared.table.Module.{Module}

-- ---- the record at a place

pub record_room : (t : List ℕ) (number place first : ℕ) → Walk t number place first → place < length t → place + 1 + 32 ≤ length t
record_room t number place first w l = omega (arith, record_inside t number place first w l, body_long (get_or t place 0))

pub record_label : (t : List ℕ) (number place first : ℕ) → Walk t number place first → place < length t
    → label_right (before 0 (take 32 (drop (place + 1) t))) ≡ true
record_label t number place first w l =
    let size = body_length (get_or t place 0) in
    let b = walk_body t number place first w l size refl in
    rw (take-take 32 size (drop (place + 1) t) (body_long (get_or t place 0))) at (sound-body (get_or t place 0) (take size (drop (place + 1) t)) b).label

-- ---- a module of the table

-- m is the module of the table t with the number n
pub record ModuleIn (t : List ℕ) (n : ℕ) (m : Module) : Type 0 where
  pub numbered : m.number ≡ n
  pub walk : Walk t m.number m.place m.first
  pub inside : m.place < length t
  pub laid : m.layout ≡ layout_at t m.place

-- ---- the module with a number

pub at_none : (n : ℕ) → module_at [] n ≡ None
unfolding module_at
at_none n = refl

pub at_first : (a : Module) (ms : List Module) → module_at (a ∷ ms) 0 ≡ Some a
unfolding module_at
at_first a ms = refl

pub at_others : (a : Module) (ms : List Module) (n : ℕ) → module_at (a ∷ ms) (suc n) ≡ module_at ms n
unfolding module_at
at_others a ms n = refl

pub no_module {ℓ} : {A : Type ℓ} (n : ℕ) (m : Module) → module_at [] n ≡ Some m → A
no_module n m e =
    let c : None ≡ Some m = sym (at_none n) ∙ e in
    absurd (let z : ◌≡◌ {A = ℕ} 0 1 = cc in omega arith)

pub the_first : (a m : Module) (ms : List Module) → module_at (a ∷ ms) 0 ≡ Some m → a ≡ m
the_first a m ms e = let c : Some a ≡ Some m = sym (at_first a ms) ∙ e in cc

-- what holds of no module, and of one before others whose values follow its own, holds of the modules of every table
module _ (P : (first : ℕ) → List Module → Type 0) (none : (first : ℕ) → P first [])
    (more : (m : Module) (ms : List Module) → P (m.first + length (rows_of m.layout)) ms → P m.first (m ∷ ms)) where
  from_record : (left number place first : ℕ) (t : List ℕ) → P first (modules_from left number place first t)
  unfolding modules_from
  from_record zero number place first t = none first
  from_record (suc left) number place first [] = none first
  from_record (suc left) number place first (kind ∷ t) =
      let layout = layout_of kind (take (body_length kind) t) in
      more (record { number = number; place = place; layout = layout; first = first }) _
      (from_record left (number + 1) (place + 1 + body_length kind) (first + length (rows_of layout)) (drop (body_length kind) t))

  pub modules-induction : (t : List ℕ) → P 0 (modules t)
  unfolding modules
  modules-induction t = from_record record_limit 0 0 0 t

-- the modules from a record on are numbered from its number on
abbrev Numbered : List ℕ → (number place first : ℕ) → Type 0
Numbered t number place first = (k : ℕ) (m : Module) → module_at (modules_at t number place first) k ≡ Some m → ModuleIn t (number + k) m

numbered-all : (t : List ℕ) (number place first : ℕ) → Walk t number place first → Numbered t number place first
numbered-all t = walk_induction t (Numbered t) last more
  where
    last : (number place first : ℕ) → length t ≤ place → Numbered t number place first
    last number place first l k m e =
        let n : None ≡ Some m = sym (at_none k) ∙ (rw (modules-end t number place first l) at e) in
        absurd (let z : ◌≡◌ {A = ℕ} 0 1 = cc in omega arith)

    more : (number place first : ℕ) → Walk t number place first → place < length t
        → Numbered t (number + 1) (place + 1 + body_length (get_or t place 0)) (first + length (rows_of (layout_at t place))) → Numbered t number place first
    more number place first w l next zero m e =
        let here : Module = record { number = number; place = place; layout = layout_at t place; first = first } in
        let c = modules-next t number place first w l (body_length (get_or t place 0)) (length (rows_of (layout_at t place))) refl refl in
        let f : Some here ≡ Some m = sym (at_first here _) ∙ (rw c at e) in
        let q : here ≡ m = cc in
        let n : number ≡ number + 0 = omega arith in
        subst (λ (x : Module). ModuleIn t (number + 0) x) q (record { numbered = n; walk = w; inside = l; laid = refl })
    more number place first w l next (suc k) m e =
        let here : Module = record { number = number; place = place; layout = layout_at t place; first = first } in
        let c = modules-next t number place first w l (body_length (get_or t place 0)) (length (rows_of (layout_at t place))) refl refl in
        let n : number + 1 + k ≡ number + suc k = omega arith in
        rw n at (next k m (sym (at_others here _ k) ∙ (rw c at e)))

-- every module of a sound table
pub module_in : (t : List ℕ) → sound t ≡ true → (n : ℕ) (m : Module) → module_at (modules t) n ≡ Some m → ModuleIn t n m
module_in t e n m h =
    let z : 0 + n ≡ n = omega arith in
    rw z at (numbered-all t 0 0 0 (walk_start t e) n m (rw (modules-start t) at h))

pub module_known : (t : List ℕ) (n : ℕ) (m : Module) → ModuleIn t n m → known_layout m.layout ≡ true
module_known t n m h = rw h.laid (walk_known t m.number m.place m.first h.walk h.inside)

pub module_at-known : (t : List ℕ) → sound t ≡ true → (n : ℕ) (m : Module) → module_at (modules t) n ≡ Some m → known_layout m.layout ≡ true
module_at-known t e n m h = module_known t n m (module_in t e n m h)

pub module_room : (t : List ℕ) (n : ℕ) (m : Module) → ModuleIn t n m → m.place + 33 ≤ length t
module_room t n m h = omega (arith, record_room t m.number m.place m.first h.walk h.inside)
