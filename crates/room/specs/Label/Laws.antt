-- What the search for a bearer tells of the module found.
use Rattle.std.specs.Prelude.{◌≡◌, refl, Bool, true, false, cond, List, [], ◌∷◌, ℕ, zero, suc, ◌+◌, ◌≤◌, length, Some}
use Rattle.std.proofs.Common.{sym, ap, subst, ◌∙◌, arith}
use Rattle.catalogue.specs.Catalogue.{known_layout}
use Rattle.room.specs.Table.{module_at, modules, sound}
use Rattle.record.specs.Field.{label_right}
use Rattle.room.specs.Table.Modules.{ModuleIn, at_first, at_others, module_in, module_known, module_room, no_module, record_label, the_first}
use Rattle.room.specs.Label.{bearer, bearers_in, exactly_one, label, same}
use Rattle.room.specs.Label.Match.{same_refl, same_true}
use Rattle.room.specs.declared.table.Module.{Module}

-- ---- one of the modules

-- m is the module n of a list, and bears the text
record Bears (t text : List ℕ) (ms : List Module) (m : Module) : Type 0 where
  n : ℕ
  found : module_at ms n ≡ Some m
  labelled : label t m ≡ text

one_alone : (a m : Module) (ms : List Module) → exactly_one (a ∷ ms) ≡ Some m → a ≡ m
unfolding exactly_one
one_alone a m [] e = cc
one_alone a m (b ∷ ms) e = absurd (let z : ◌≡◌ {A = ℕ} 0 1 = cc in omega arith)

two_none : (a m : Module) (ms : List Module) → exactly_one (a ∷ ms) ≡ Some m → ms ≡ []
unfolding exactly_one
two_none a m [] e = refl
two_none a m (b ∷ ms) e = absurd (let z : ◌≡◌ {A = ℕ} 0 1 = cc in omega arith)

none_alone : (m : Module) → exactly_one [] ≡ Some m → ⊥
unfolding exactly_one
none_alone m e = let z : ◌≡◌ {A = ℕ} 0 1 = cc in omega arith

bears_only : (t text : List ℕ) (ms : List Module) (m : Module) → exactly_one (bearers_in t text ms) ≡ Some m → Bears t text ms m
unfolding bearers_in
bears_only t text [] m e = absurd (none_alone m e)
bears_only t text (a ∷ ms) m e = turn (bears_only t text ms m) (same (label t a) text) refl e
  where
    turn : (exactly_one (bearers_in t text ms) ≡ Some m → Bears t text ms m) → (b : Bool) → same (label t a) text ≡ b
        → exactly_one (cond b (a ∷ bearers_in t text ms) (bearers_in t text ms)) ≡ Some m → Bears t text (a ∷ ms) m
    turn next true s h =
        let q : a ≡ m = one_alone a m (bearers_in t text ms) h in
        record { n = 0; found = at_first a ms ∙ ap Some q; labelled = ap (label t) (sym q) ∙ same_true (label t a) text s }
    turn next false s h =
        let r = next h in
        record { n = suc r.n; found = at_others a ms r.n ∙ r.found; labelled = r.labelled }

bears_first : (t text : List ℕ) (a m : Module) (ms : List Module) → module_at (a ∷ ms) 0 ≡ Some m → label t m ≡ text
    → bearers_in t text (a ∷ ms) ≡ a ∷ bearers_in t text ms
unfolding bearers_in
bears_first t text a m ms f l =
    let e : label t a ≡ text = ap (label t) (the_first a m ms f) ∙ l in
    let s : same (label t a) text ≡ true = rw e (same_refl text) in
    rw s

some_bearer : (t text : List ℕ) (ms : List Module) (n : ℕ) (m : Module) → module_at ms n ≡ Some m → label t m ≡ text → bearers_in t text ms ≡ [] → ⊥
unfolding bearers_in
some_bearer t text [] n m f l e = no_module n m f
some_bearer t text (a ∷ ms) zero m f l e =
    let b = bears_first t text a m ms f l in
    let z : ◌≡◌ {A = ℕ} 0 1 = cc in
    omega arith
some_bearer t text (a ∷ ms) (suc n) m f l e = turn (some_bearer t text ms n m (sym (at_others a ms n) ∙ f) l) (same (label t a) text) e
  where
    turn : (bearers_in t text ms ≡ [] → ⊥) → (b : Bool) → cond b (a ∷ bearers_in t text ms) (bearers_in t text ms) ≡ [] → ⊥
    turn next true h = let z : ◌≡◌ {A = ℕ} 0 1 = cc in omega arith
    turn next false h = next h

only_one : (t text : List ℕ) (ms : List Module) (n : ℕ) (a m : Module) → module_at ms n ≡ Some a → label t a ≡ text
    → exactly_one (bearers_in t text ms) ≡ Some m → a ≡ m
unfolding bearers_in
only_one t text [] n a m f l e = no_module n a f
only_one t text (x ∷ ms) zero a m f l e =
    sym (the_first x a ms f) ∙ one_alone x m (bearers_in t text ms) (ap exactly_one (sym (bears_first t text x a ms f l)) ∙ e)
only_one t text (x ∷ ms) (suc n) a m f l e =
    turn (only_one t text ms n a m (sym (at_others x ms n) ∙ f) l) (some_bearer t text ms n a (sym (at_others x ms n) ∙ f) l) (same (label t x) text) e
  where
    turn : (exactly_one (bearers_in t text ms) ≡ Some m → a ≡ m) → (bearers_in t text ms ≡ [] → ⊥) → (b : Bool)
        → exactly_one (cond b (x ∷ bearers_in t text ms) (bearers_in t text ms)) ≡ Some m → a ≡ m
    turn next some true h = absurd (some (two_none x m (bearers_in t text ms) h))
    turn next some false h = next h

-- ---- the laws

-- the module found stands in the table at its own number, and bears the text
pub record Found (t text : List ℕ) (m : Module) : Type 0 where
  pub stands : ModuleIn t m.number m
  pub found : module_at (modules t) m.number ≡ Some m
  pub labelled : label t m ≡ text
  pub right : label_right text ≡ true
  pub known : known_layout m.layout ≡ true
  pub room : m.place + 33 ≤ length t

-- every module's label is a right one
pub module_label : (t : List ℕ) (n : ℕ) (m : Module) → ModuleIn t n m → label_right (label t m) ≡ true
unfolding label
module_label t n m h = record_label t m.number m.place m.first h.walk h.inside

pub bearer-found : (t text : List ℕ) (m : Module) → sound t ≡ true → bearer t text ≡ Some m → Found t text m
unfolding bearer
bearer-found t text m s e =
    let b = bears_only t text (modules t) m e in
    let i = module_in t s b.n m b.found in
    record {
      stands = subst (λ (k : ℕ). ModuleIn t k m) (sym i.numbered) i;
      found = ap (module_at (modules t)) i.numbered ∙ b.found;
      labelled = b.labelled;
      right = rw b.labelled at (module_label t b.n m i);
      known = module_known t b.n m i;
      room = module_room t b.n m i;
    }

-- no other module bears the text
pub bearer-alone : (t text : List ℕ) (n : ℕ) (a m : Module) → module_at (modules t) n ≡ Some a → label t a ≡ text → bearer t text ≡ Some m → a ≡ m
unfolding bearer
bearer-alone t text n a m = only_one t text (modules t) n a m
