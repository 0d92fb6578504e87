-- Laws of a layout: its kind is the record's, and a sound record has a known one.
use Rattle.std.specs.Prelude.{◌≡◌, refl, Bool, true, false, cond, List, ℕ, ◌+◌, ◌≤◌, ◌<◌, eqb, length, get_or, take, drop}
use Rattle.std.proofs.Common.{ap, ◌∙◌, arith, eq-eqb, eqb-true, ne_eqb, get_or-drop, get_or-take, Fits}
use Rattle.std.proofs.Math.Path.{sym}
use Rattle.std.proofs.lemmas.Bool.{eqb-false}
use Rattle.std.specs.Int.{w64}
use Rattle.catalogue.specs.Catalogue.{fixed, known, known_layout}
use Rattle.catalogue.specs.Catalogue.Laws.{fixed-known, fixed-not_mixer, known-kind, mixer-known, only_mixer}
use Rattle.catalogue.specs.declared.layout.Layout.{Layout}
use Rattle.record.specs.Body.{body_length, body_sound}
use Rattle.record.specs.Body.Laws.{mixer-body, sound-body}
use Rattle.record.specs.Layout.{layout_at, layout_of}

-- what its body says, at its place in a table
pub layout_here : (t : List ℕ) (place : ℕ) → layout_at t place ≡ layout_of (get_or t place 0) (take (body_length (get_or t place 0)) (drop (place + 1) t))
unfolding layout_at
layout_here t place = refl

pub layout_kind : (kind : ℕ) (body : List ℕ) → (layout_of kind body).kind ≡ kind
unfolding layout_of
layout_kind kind body = go (eqb kind 7)
  where
    go : (b : Bool) → (cond {A = Layout} b (record { kind = kind; inputs = get_or body 32 0; outputs = get_or body 33 0 }) (record { kind = kind; inputs = 0; outputs = 0 })).kind ≡ kind
    go true = refl
    go false = refl

-- a mixer's inputs and outputs stand behind the label's field, and no other kind has them
mixer-layout : (kind : ℕ) (body : List ℕ) → kind ≡ 7 → layout_of kind body ≡ record { kind = kind; inputs = get_or body 32 0; outputs = get_or body 33 0 }
unfolding layout_of
mixer-layout kind body e = rw (eq-eqb kind 7 e)

other_layout : (kind : ℕ) (body : List ℕ) → (kind ≡ 7 → ⊥) → layout_of kind body ≡ record { kind = kind; inputs = 0; outputs = 0 }
unfolding layout_of
other_layout kind body n = rw (ne_eqb kind 7 n)

-- a sound body's layout is known
pub layout_known : (kind : ℕ) (body : List ℕ) → body_sound kind body ≡ true → known_layout (layout_of kind body) ≡ true
layout_known kind body e = go (eqb kind 7) refl
  where
    go : (b : Bool) → eqb kind 7 ≡ b → known_layout (layout_of kind body) ≡ true
    go true q =
        let k = eqb-true kind 7 q in
        let z = (sound-body kind body e).sizes k in
        rw (mixer-layout kind body k) (mixer-known _ k z.0 z.1)
    go false q =
        let n = eqb-false kind 7 q in
        rw (other_layout kind body n) (fixed-known _ (sound-body kind body e).kinds n)

-- the body of the record at a place is as long as its layout's kind says
pub layout_body : (t : List ℕ) (place size : ℕ) (l : Layout) → l ≡ layout_at t place → size ≡ body_length l.kind → size ≡ body_length (get_or t place 0)
layout_body t place size l e s =
    let k : l.kind ≡ get_or t place 0 = ap (λ x. x.kind) (e ∙ layout_here t place) ∙ layout_kind (get_or t place 0) _ in
    rw k at s

-- a record with a known layout has a known kind
pub known_at : (t : List ℕ) (place : ℕ) → known_layout (layout_at t place) ≡ true → known (get_or t place 0) ≡ true
known_at t place k =
    let e : (layout_at t place).kind ≡ get_or t place 0 = ap (λ x. x.kind) (layout_here t place) ∙ layout_kind (get_or t place 0) _ in
    rw e at (known-kind (layout_at t place) k)

-- ---- rules for the code that reads a layout

pub kind-inside : (t : List ℕ) (place size : ℕ) → place + 1 + size ≤ length t → place < length t
kind-inside t place size h = omega arith

module _ (t : List ℕ) (place : ℕ) (h : place + 1 + body_length (get_or t place 0) ≤ length t) (b : Bool) (k : known (get_or t place 0) ≡ true) (f : b ≡ fixed (get_or t place 0)) (o : b ≡ false) where
  e : get_or t place 0 ≡ 7
  e = only_mixer (get_or t place 0) k (sym f ∙ o)

  mixer-inside : place + 35 ≤ length t
  mixer-inside = omega (arith, mixer-body (get_or t place 0) e)

  -- each of its two numbers is within
  pub number-inside : (n : ℕ) → n ≤ 34 → place + n < length t
  number-inside n l = omega (arith, mixer-inside)

  pub number_fits : (n : ℕ) → n ≤ 34 → Fits w64 (length t) → Fits w64 (place + n)
  number_fits n l f = record { fits = omega (arith, mixer-inside, f.fits) }

  number_at : (n : ℕ) → n < 34 → get_or (take (body_length (get_or t place 0)) (drop (place + 1) t)) n 0 ≡ get_or t (place + (n + 1)) 0
  number_at n l =
      let z : place + 1 + n ≡ place + (n + 1) = omega arith in
      get_or-take (body_length (get_or t place 0)) (drop (place + 1) t) n 0 (omega (arith, mixer-body (get_or t place 0) e)) ∙ get_or-drop (place + 1) t n 0 ∙ rw z

  pub mixer-read : ◌≡◌ {A = Layout} (record { kind = get_or t place 0; inputs = get_or t (place + 33) 0; outputs = get_or t (place + 34) 0 }) (layout_at t place)
  unfolding layout_at
  mixer-read = sym (mixer-layout (get_or t place 0) _ e ∙ rw (number_at 32 (omega arith), number_at 33 (omega arith)))

pub other_read : (t : List ℕ) (place : ℕ) (b : Bool) → b ≡ fixed (get_or t place 0) → b ≡ true → ◌≡◌ {A = Layout} (record { kind = get_or t place 0; inputs = 0; outputs = 0 }) (layout_at t place)
unfolding layout_at
other_read t place b f o = sym (other_layout (get_or t place 0) _ (fixed-not_mixer (get_or t place 0) (sym f ∙ o)))

pub ruleset reading = (kind-inside, number-inside, number_fits, mixer-read, other_read)
