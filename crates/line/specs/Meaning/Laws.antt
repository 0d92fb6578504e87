-- What a line that names a parameter tells, and when a line puts a value.
use Rattle.std.specs.Prelude.{◌≡◌, true, List, ℕ, ◌+◌, ℤ, pos, length, get_or, Result, Ok, Err, Option, Some, None}
use Rattle.std.proofs.Math.Path.{refl, ap}
use Rattle.std.proofs.Common.{sym, ◌∙◌, arith}
use Rattle.catalogue.specs.Catalogue.{known_layout}
use Rattle.catalogue.specs.declared.groups.Part.{Part}
use Rattle.room.specs.Label.{label, bearer}
use Rattle.room.specs.Label.Laws.{bearer-found}
use Rattle.values.specs.Control.{named}
use Rattle.values.specs.Control.Laws.{PartOf, named-told}
use Rattle.values.specs.Parameters.{parameters, parameters_of, parameter_at, place}
use Rattle.values.specs.Parameters.First.{place_is}
use Rattle.values.specs.Parameters.Places.{at-module}
use Rattle.room.specs.Table.{sound}
use Rattle.values.specs.Room.{Room, row_in}
use Rattle.catalogue.specs.declared.groups.Groups.{Groups}
use Rattle.room.specs.declared.table.Module.{Module}
use Rattle.values.specs.declared.parameter.Parameter.{Parameter}
use Rattle.text.specs.Cut.{part}
use Rattle.syntax.specs.Shape.{shape}
use Rattle.syntax.specs.IndexPart.{read_indices}
use Rattle.syntax.specs.Value.{read_value}
use Rattle.syntax.specs.Value.Laws.{Valued, value_told, value_back}
use Rattle.line.specs.Meaning.{indexed, Target, target, code, in_module, in_room, put_of, get_of, set_of, bearer_of, of_shape, meaning}
use Rattle.syntax.specs.declared.cause.Malformed as syntax
use Rattle.syntax.specs.declared.shape.Shape.{Shape}
use Rattle.syntax.specs.declared.shape.Shape.TheVariants as shape
use Rattle.line.specs.declared.meaning.Meaning.TheVariants.{Code, Get, Put}

-- ---- a parameter, or a part of it, named by a label and an index part

-- one module alone bears the label, and the index part says groups that name a part of a parameter of that module
pub record Names (t text indices : List ℕ) (p : Parameter) (u : Part) : Type 0 where
  pub one : bearer t text ≡ Some p.owner
  pub groups : Groups
  pub right : read_indices indices ≡ Some groups
  pub names : named p.owner groups ≡ Some (p, u)

no_target {ℓ} : {A : Type ℓ} (n : ℕ) (p : Parameter) (u : Part) → code n ≡ target p u → A
no_target n p u h = absurd (let z : ◌≡◌ {A = ℕ} 0 1 = cc in omega arith)

module _ (t text indices : List ℕ) (p : Parameter) (u : Part) where
  pub names_told : in_room (bearer t text) (read_indices indices) ≡ target p u → Names t text indices p u
  unfolding in_room in_module indexed
  names_told h = go (bearer t text) refl (read_indices indices) refl h
    where
      found : (m : Module) (i : Groups) (f : Option (Parameter × Part)) → bearer t text ≡ Some m → read_indices indices ≡ Some i → named m i ≡ f
          → in_module f ≡ target p u → Names t text indices p u
      found m i (Some (q, v)) b r n h =
          let f : named m i ≡ Some (p, u) = cc in
          let o : p.owner ≡ m = (named-told m i p u f).owner in
          record { one = b ∙ ap Some (sym o); groups = i; right = r; names = ap (λ k. named k i) o ∙ f }
      found m i None b r n h = no_target 2 p u h

      go : (b : Option Module) → bearer t text ≡ b → (i : Option Groups) → read_indices indices ≡ i → in_room b i ≡ target p u → Names t text indices p u
      go (Some m) b (Some i) r h = found m i (named m i) b r refl h
      go (Some m) b None r h = no_target 2 p u h
      go None b i r h = no_target 1 p u h

  pub names_back : Names t text indices p u → in_room (bearer t text) (read_indices indices) ≡ target p u
  unfolding in_room in_module indexed
  names_back h = rw (h.one, h.right) (ap in_module h.names)

  module _ (s : sound t ≡ true) (h : Names t text indices p u) where
    -- it is its module's, by its number
    pub names_own : parameter_at (parameters_of p.owner) p.number ≡ Some p
    names_own = (named-told p.owner h.groups p u h.names).own

    -- the parameter named is the one that stands at its place
    pub names_place : parameter_at (parameters t) (place p) ≡ Some p
    names_place = rw (place_is p) (at-module t p.owner.number p.owner p.number p (bearer-found t text p.owner s h.one).found names_own)

    -- its module alone bears its label, and has a layout of rows
    pub names_label : bearer t (label t p.owner) ≡ Some p.owner
    names_label = ap (bearer t) (bearer-found t text p.owner s h.one).labelled ∙ h.one

    pub names_known : known_layout p.owner.layout ≡ true
    names_known = (bearer-found t text p.owner s h.one).known

    -- the parameter has the part that is named
    pub names_has : PartOf p u
    names_has = (named-told p.owner h.groups p u h.names).has

-- ---- lines that put a value

-- a set line: its places, the parameter named between them, and the value that the text says
pub record Puts (r : Room) (vs : List ℤ) (line : List ℕ) (p : Parameter) (x : ℤ) : Type 0 where
  pub quote : ℕ
  pub close : ℕ
  pub equal : ℕ
  pub shaped : shape line ≡ Ok (shape.Set quote close equal)
  pub control : Part
  pub names : Names r.table (part line (quote + 1) close) (part line (close + 1) equal) p control
  pub valued : Valued (row_in r p) control (get_or vs (place p) (pos 0)) (part line (equal + 1) (length line)) x

-- a get line
pub record Gets (t line : List ℕ) (p : Parameter) (u : Part) : Type 0 where
  pub quote : ℕ
  pub close : ℕ
  pub shaped : shape line ≡ Ok (shape.Get quote close)
  pub names : Names t (part line (quote + 1) close) (part line (close + 1) (length line)) p u

no_put {ℓ} : {A : Type ℓ} (p : Parameter) (x : ℤ) (n : ℕ) → Code n ≡ Put p x → A
no_put p x n h = absurd (let z : ◌≡◌ {A = ℕ} 0 1 = cc in omega arith)

no_get {ℓ} : {A : Type ℓ} (p : Parameter) (u : Part) (n : ℕ) → Code n ≡ Get p u → A
no_get p u n h = absurd (let z : ◌≡◌ {A = ℕ} 0 1 = cc in omega arith)

get_puts {ℓ} : {A : Type ℓ} (p : Parameter) (x : ℤ) (g : Target) → get_of g ≡ Put p x → A
unfolding get_of
get_puts p x (target q u) h = absurd (let z : ◌≡◌ {A = ℕ} 0 1 = cc in omega arith)
get_puts p x (code n) h = no_put p x n h

-- a set line's target and text
record SetTold (r : Room) (vs : List ℤ) (text : List ℕ) (g : Target) (p : Parameter) (x : ℤ) : Type 0 where
  control : Part
  aimed : g ≡ target p control
  valued : Valued (row_in r p) control (get_or vs (place p) (pos 0)) text x

set_told : (r : Room) (vs : List ℤ) (text : List ℕ) (g : Target) (p : Parameter) (x : ℤ) → set_of r vs text g ≡ Put p x → SetTold r vs text g p x
unfolding set_of put_of
set_told r vs text (target q u) p x h = go (read_value (row_in r q) u (get_or vs (place q) (pos 0)) text) refl h
  where
    go : (v : Option ℤ) → read_value (row_in r q) u (get_or vs (place q) (pos 0)) text ≡ v → put_of q v ≡ Put p x → SetTold r vs text (target q u) p x
    go (Some y) e h =
        let s : q ≡ p = cc in
        let z : y ≡ x = cc in
        let v : read_value (row_in r p) u (get_or vs (place p) (pos 0)) text ≡ Some x = cc in
        record { control = u; aimed = ap (λ k. target k u) s; valued = value_told (row_in r p) u (get_or vs (place p) (pos 0)) text x v }
    go None e h = no_put p x 3 h
set_told r vs text (code n) p x h = no_put p x n h

pub put_told : (r : Room) (vs : List ℤ) (line : List ℕ) (p : Parameter) (x : ℤ) → meaning r vs line ≡ Put p x → Puts r vs line p x
unfolding meaning of_shape bearer_of
put_told r vs line p x h = go (shape line) refl h
  where
    go : (s : Result Shape syntax.Malformed) → shape line ≡ s → of_shape r vs line (bearer_of r.table line s) s ≡ Put p x → Puts r vs line p x
    go (Err m) e h = absurd (let z : ◌≡◌ {A = ℕ} 0 1 = cc in omega arith)
    go (Ok (shape.Get o c)) e h = get_puts p x (in_room (bearer r.table (part line (o + 1) c)) (read_indices (part line (c + 1) (length line)))) h
    go (Ok (shape.Set o c e)) s h =
        let g = set_told r vs (part line (e + 1) (length line)) (in_room (bearer r.table (part line (o + 1) c)) (read_indices (part line (c + 1) e))) p x h in
        record {
          quote = o;
          close = c;
          equal = e;
          shaped = s;
          control = g.control;
          names = names_told r.table (part line (o + 1) c) (part line (c + 1) e) p g.control g.aimed;
          valued = g.valued;
        }

pub puts_back : (r : Room) (vs : List ℤ) (line : List ℕ) (p : Parameter) (x : ℤ) → Puts r vs line p x → meaning r vs line ≡ Put p x
unfolding meaning of_shape bearer_of set_of put_of
puts_back r vs line p x h =
    rw (
      h.shaped,
      names_back r.table (part line (h.quote + 1) h.close) (part line (h.close + 1) h.equal) p h.control h.names,
      value_back (row_in r p) h.control (get_or vs (place p) (pos 0)) (part line (h.equal + 1) (length line)) x h.valued,
    )

set_gets : (r : Room) (p : Parameter) (u : Part) (vs : List ℤ) (text : List ℕ) (g : Target) → set_of r vs text g ≡ Get p u → ⊥
unfolding set_of put_of
set_gets r p u vs text (target q v) h = go (read_value (row_in r q) v (get_or vs (place q) (pos 0)) text) h
  where
    go : (v : Option ℤ) → put_of q v ≡ Get p u → ⊥
    go (Some y) h = let z : ◌≡◌ {A = ℕ} 0 1 = cc in omega arith
    go None h = no_get p u 3 h
set_gets r p u vs text (code n) h = no_get p u n h

get_aims : (p : Parameter) (u : Part) (g : Target) → get_of g ≡ Get p u → g ≡ target p u
unfolding get_of
get_aims p u (target q v) h = (cc)
get_aims p u (code n) h = no_get p u n h

pub get_told : (r : Room) (vs : List ℤ) (line : List ℕ) (p : Parameter) (u : Part) → meaning r vs line ≡ Get p u → Gets r.table line p u
unfolding meaning of_shape bearer_of
get_told r vs line p u h = go (shape line) refl h
  where
    go : (s : Result Shape syntax.Malformed) → shape line ≡ s → of_shape r vs line (bearer_of r.table line s) s ≡ Get p u → Gets r.table line p u
    go (Err m) e h = absurd (let z : ◌≡◌ {A = ℕ} 0 1 = cc in omega arith)
    go (Ok (shape.Get o c)) s h =
        let g = get_aims p u (in_room (bearer r.table (part line (o + 1) c)) (read_indices (part line (c + 1) (length line)))) h in
        record { quote = o; close = c; shaped = s; names = names_told r.table (part line (o + 1) c) (part line (c + 1) (length line)) p u g }
    go (Ok (shape.Set o c e)) s h =
        absurd (set_gets r p u vs (part line (e + 1) (length line)) (in_room (bearer r.table (part line (o + 1) c)) (read_indices (part line (c + 1) e))) h)

pub gets_back : (r : Room) (vs : List ℤ) (line : List ℕ) (p : Parameter) (u : Part) → Gets r.table line p u → meaning r vs line ≡ Get p u
unfolding meaning of_shape bearer_of get_of
gets_back r vs line p u h =
    rw (h.shaped, names_back r.table (part line (h.quote + 1) h.close) (part line (h.close + 1) (length line)) p u h.names)
