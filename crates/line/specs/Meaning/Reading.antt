-- Rules for the code that finds what a line means, part by part.
use Rattle.std.specs.Prelude.{◌≡◌, refl, true, List, ℕ, ◌+◌, ◌-◌, ◌<◌, ℤ, pos, length, get_or, take, drop, Result, Ok, Err, Option, Some, None}
use Rattle.std.proofs.Common.{sym, ◌∙◌, arith}
use Rattle.catalogue.specs.Catalogue.{known_layout}
use Rattle.catalogue.specs.Row.{permitted}
use Rattle.catalogue.specs.Row.{RowFits}
use Rattle.catalogue.specs.Row.Laws.{bits}
use Rattle.catalogue.specs.Row.Near.{permitted-bits}
use Rattle.values.specs.Control.{named}
use Rattle.values.specs.Parameters.{place}
use Rattle.values.specs.Parameters.First.{place_is}
use Rattle.catalogue.specs.declared.groups.Groups.{Groups}
use Rattle.catalogue.specs.declared.groups.Part.{Part}
use Rattle.room.specs.declared.table.Module.{Module}
use Rattle.values.specs.declared.parameter.Parameter.{Parameter}
use Rattle.text.specs.Cut.{part}
use Rattle.text.specs.Cut.Part.{part-is}
use Rattle.syntax.specs.Shape.{shape}
use Rattle.syntax.specs.Shape.Laws.{set_ordered}
use Rattle.syntax.specs.Shape.Reading.{get_ordered}
use Rattle.syntax.specs.IndexPart.{read_indices}
use Rattle.syntax.specs.Value.{OutputIn, read_value}
use Rattle.syntax.specs.Value.Laws.{value_told}
use Rattle.values.specs.Room.{Room, row_in}
use Rattle.values.specs.Room.Laws.{row_in-own}
use Rattle.line.specs.Meaning.{indexed, target, code, in_module, in_room, put_of, get_of, set_of, of_shape}
use Rattle.syntax.specs.declared.cause.Malformed as syntax
use Rattle.syntax.specs.declared.shape.Shape.{Shape}
use Rattle.syntax.specs.declared.shape.Shape.TheVariants as shape
use Rattle.line.specs.declared.meaning.Meaning.{Meaning}
use Rattle.line.specs.declared.meaning.Meaning.TheVariants.{Malformed, Code, Get, Put}

-- ---- the index part, in a module

module _ (m : Module) (s : List ℕ) (x : Option Groups) (e : x ≡ read_indices s) where
  pub index_wrong : x ≡ None → None ≡ indexed m (read_indices s)
  unfolding indexed
  index_wrong h = rw (sym e ∙ h)

  pub index_right : (i : Groups) (r : Option (Parameter × Part)) → x ≡ Some i → r ≡ named m i → r ≡ indexed m (read_indices s)
  unfolding indexed
  index_right i r h g = g ∙ rw (sym e ∙ h)

pub ruleset indexed-rules = (index_wrong, index_right)

-- ---- the label

-- what the bearer of a label and an index part name
unfoldable pub sought_in : Option Module → Option Groups → Option (Parameter × Part)
sought_in (Some m) i = indexed m i
sought_in None i = None

-- the code where nothing is named
unfoldable pub missing : Option Module → ℕ
missing (Some m) = 2
missing None = 1

-- a module that bears a label has a known type
abbrev pub KnownBearer : Option Module → Type 0
KnownBearer b = (m : Module) → b ≡ Some m → known_layout m.layout ≡ true

module _ (b : Option Module) (s : List ℕ) where
  pub not_one : b ≡ None → None ≡ sought_in b (read_indices s)
  unfolding sought_in
  not_one h = rw h

  module _ (m : Module) (h : b ≡ Some m) where
    pub bearer-known : KnownBearer b → known_layout m.layout ≡ true
    bearer-known k = k m h

    pub only_one : (f : Option (Parameter × Part)) → f ≡ indexed m (read_indices s) → f ≡ sought_in b (read_indices s)
    unfolding sought_in
    only_one f g = g ∙ rw h

pub ruleset sought_rules = (not_one, bearer-known, only_one)

pub missing-label : (b : Option Module) → b ≡ None → 1 ≡ missing b
unfolding missing
missing-label b h = rw h

pub missing-index : (b : Option Module) (m : Module) → b ≡ Some m → 2 ≡ missing b
unfolding missing
missing-index b m h = rw h

pub ruleset missing-rules = (missing-label, missing-index)

room_named : (b : Option Module) (i : Option Groups) (p : Parameter) (u : Part) → sought_in b i ≡ Some (p, u) → in_room b i ≡ target p u
unfolding sought_in in_room in_module
room_named (Some m) i p u e = rw e
room_named None i p u e = absurd (let z : ◌≡◌ {A = ℕ} 0 1 = cc in omega arith)

room_coded : (b : Option Module) (i : Option Groups) → sought_in b i ≡ None → in_room b i ≡ code (missing b)
unfolding sought_in in_room in_module missing
room_coded (Some m) i e = rw e
room_coded None i e = refl

-- ---- the value text: the code judges by the own row of the parameter

-- the values hold a parameter's value, which is permitted in the room and has the part
pub record Holds (r : Room) (vs : List ℤ) (p : Parameter) (u : Part) : Type 0 where
  pub within : p.owner.first + p.number < length vs
  pub fits : RowFits (row_in r p)
  pub permits : permitted (row_in r p) (get_or vs (p.owner.first + p.number) (pos 0)) ≡ true
  pub output : OutputIn u (get_or vs (p.owner.first + p.number) (pos 0))

module _ (r : Room) (vs : List ℤ) (p : Parameter) (u : Part) (h : Holds r vs p u) where
  pub held_fits : RowFits p.row
  held_fits = rw (row_in-own r p) at h.fits

  plain : bits (get_or vs (p.owner.first + p.number) (pos 0)) ≡ get_or vs (p.owner.first + p.number) (pos 0)
  plain = permitted-bits (row_in r p) (get_or vs (p.owner.first + p.number) (pos 0)) h.fits h.permits

  pub held-permitted : permitted p.row (bits (get_or vs (p.owner.first + p.number) (pos 0))) ≡ true
  held-permitted = rw (plain, ← row_in-own r p) h.permits

  pub held-output : OutputIn u (bits (get_or vs (p.owner.first + p.number) (pos 0)))
  held-output = rw plain h.output

  module _ (s : List ℕ) (w : Option ℤ) (e : w ≡ read_value p.row u (bits (get_or vs (p.owner.first + p.number) (pos 0))) s) where
    said : w ≡ read_value (row_in r p) u (get_or vs (p.owner.first + p.number) (pos 0)) s
    said = rw (row_in-own r p) (rw plain at e)

    pub put_said : (x : ℤ) → w ≡ Some x → Put p (bits x) ≡ put_of p (read_value (row_in r p) u (get_or vs (place p) (pos 0)) s)
    unfolding put_of
    put_said x k =
        let v = value_told (row_in r p) u (get_or vs (p.owner.first + p.number) (pos 0)) s x (sym said ∙ k) in
        rw (place_is p, ← said, k, permitted-bits (row_in r p) x h.fits v.permits)

    pub put_wrong : w ≡ None → Code 3 ≡ put_of p (read_value (row_in r p) u (get_or vs (place p) (pos 0)) s)
    unfolding put_of
    put_wrong k = rw (place_is p, ← said, k)

pub ruleset put_rules = (held_fits, held-permitted, held-output, put_said, put_wrong)

-- ---- a line's parts, by its shape

-- the module that bears a label has a known type, and each of its parameters has its value in the list
pub record Seated (r : Room) (vs : List ℤ) (b : Option Module) : Type 0 where
  pub known : KnownBearer b
  pub holds : (indices : List ℕ) (p : Parameter) (u : Part) → in_room b (read_indices indices) ≡ target p u → Holds r vs p u

module _ (line : List ℕ) (b : Option Module) (c : ℕ) (g : Option (Parameter × Part)) where
  module _ (e : g ≡ sought_in b (read_indices (take (length line - (c + 1)) (drop (c + 1) line)))) where
    pub get_named : (p : Parameter) (u : Part) → g ≡ Some (p, u) → Get p u ≡ get_of (in_room b (read_indices (part line (c + 1) (length line))))
    unfolding get_of
    get_named p u h = rw (part-is line (c + 1) (length line), room_named b _ p u (sym e ∙ h))

    pub get_coded : (n : ℕ) → g ≡ None → n ≡ missing b → Code n ≡ get_of (in_room b (read_indices (part line (c + 1) (length line))))
    unfolding get_of
    get_coded n h k = rw (part-is line (c + 1) (length line), room_coded b _ (sym e ∙ h), k)

  module _ (r : Room) (q : ℕ) (vs : List ℤ) (e : g ≡ sought_in b (read_indices (take (q - (c + 1)) (drop (c + 1) line)))) where
    pub set_held : (p : Parameter) (u : Part) → g ≡ Some (p, u) → Seated r vs b → Holds r vs p u
    set_held p u h k = k.holds (take (q - (c + 1)) (drop (c + 1) line)) p u (room_named b _ p u (sym e ∙ h))

    pub set_named : (p : Parameter) (u : Part) (o : Meaning) → g ≡ Some (p, u)
        → o ≡ put_of p (read_value (row_in r p) u (get_or vs (place p) (pos 0)) (take (length line - (q + 1)) (drop (q + 1) line)))
        → o ≡ set_of r vs (part line (q + 1) (length line)) (in_room b (read_indices (part line (c + 1) q)))
    unfolding set_of
    set_named p u o h f = f ∙ rw (part-is line (c + 1) q, part-is line (q + 1) (length line), room_named b _ p u (sym e ∙ h))

    pub set_coded : (n : ℕ) → g ≡ None → n ≡ missing b → Code n ≡ set_of r vs (part line (q + 1) (length line)) (in_room b (read_indices (part line (c + 1) q)))
    unfolding set_of
    set_coded n h k = rw (part-is line (c + 1) q, room_coded b _ (sym e ∙ h), k)

pub seated_known : (r : Room) (vs : List ℤ) (b : Option Module) → Seated r vs b → KnownBearer b
seated_known r vs b k = k.known

pub ruleset get_rules = (get_named, get_coded)

pub ruleset set_rules = (seated_known, set_held, set_named, set_coded)

module _ (line : List ℕ) (s : Result Shape syntax.Malformed) (e : s ≡ shape line) where
  module _ (o c : ℕ) (h : s ≡ Ok (shape.Get o c)) where
    pub get_label : o < c
    get_label = (get_ordered line o c (sym e ∙ h)).ordered

    pub get_closed : c < length line
    get_closed = (get_ordered line o c (sym e ∙ h)).ends

  module _ (o c q : ℕ) (h : s ≡ Ok (shape.Set o c q)) where
    pub set_label : o < c
    set_label = (set_ordered line o c q (sym e ∙ h)).label

    pub set_indices : c < q
    set_indices = (set_ordered line o c q (sym e ∙ h)).indices

    pub set_divided : q < length line
    set_divided = (set_ordered line o c q (sym e ∙ h)).ends

    pub set_closed : c < length line
    set_closed = omega (arith, set_indices, set_divided)

pub ruleset places = (get_label, get_closed, set_label, set_indices, set_divided, set_closed)

module _ (r : Room) (vs : List ℤ) (line : List ℕ) (b : Option Module) (s : Result Shape syntax.Malformed) where
  pub means_malformed : (m : syntax.Malformed) → s ≡ Err m → Malformed m.cause m.place ≡ of_shape r vs line b s
  unfolding of_shape
  means_malformed m h = rw h

  pub get_means : (o c : ℕ) (x : Meaning) → s ≡ Ok (shape.Get o c) → x ≡ get_of (in_room b (read_indices (part line (c + 1) (length line)))) → x ≡ of_shape r vs line b s
  unfolding of_shape
  get_means o c x h g = g ∙ rw h

  pub set_means : (o c q : ℕ) (x : Meaning) → s ≡ Ok (shape.Set o c q)
      → x ≡ set_of r vs (part line (q + 1) (length line)) (in_room b (read_indices (part line (c + 1) q))) → x ≡ of_shape r vs line b s
  unfolding of_shape
  set_means o c q x h g = g ∙ rw h

pub ruleset meaning-rules = (places, seated_known, means_malformed, get_means, set_means)
