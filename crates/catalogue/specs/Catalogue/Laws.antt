-- Laws of the catalogue: the module types, the layouts of modules, and that the rows of a module that is no mixer are its type's run of the catalogue.
use Rattle.std.specs.Prelude.{◌≡◌, refl, Bool, false, not, ◌&&◌, ◌||◌, List, ◌∷◌, ℕ, zero, suc, ◌+◌, ◌*◌, ◌≤◌, ◌<◌, eqb, leb, get_or, drop}
use Rattle.std.proofs.Common.{ap, sym, ◌∙◌, add-one, arith, eq-eqb, eqb-true, leb-true, le-leb, ne_eqb, lit≤, drop-cons}
use Rattle.std.proofs.Math.Bool.{true}
use Rattle.std.proofs.lemmas.Bool.{eqb-false, lt-leb}
use Rattle.std.proofs.Math.ListN.{length}
use Rattle.text.specs.Every.Laws.{both_left, both_right, never}
use Rattle.catalogue.specs.Catalogue.{catalogue, fixed, known, known_layout, level, minus, no_row, number, row_limit, row_of, rows_in, rows_of, switch}
use Rattle.catalogue.specs.Mixer.{MixerSize, mixer_count, mixer_row, mixer_rows, size_right}
use Rattle.catalogue.specs.Mixer.Tabulated.{mixer-at, mixer-few, mixer_length_lem}
use Rattle.catalogue.specs.declared.layout.Layout.{Layout}
use Rattle.catalogue.specs.declared.row.Row.{Row}

-- ---- module types

-- the bounds of a type that the catalogue has
record Fixed (kind : ℕ) : Type 0 where
  least : 1 ≤ kind
  most : kind ≤ 6

fixed-bounds : (kind : ℕ) → fixed kind ≡ true → Fixed kind
unfolding fixed
fixed-bounds kind e =
    record { least = leb-true 1 kind (both_left (leb 1 kind) (leb kind 6) e); most = leb-true kind 6 (both_right (leb 1 kind) (leb kind 6) e) }

-- the bounds of a module type
pub record Known (kind : ℕ) : Type 0 where
  pub least : 1 ≤ kind
  pub most : kind ≤ 7

pub known-bounds : (kind : ℕ) → known kind ≡ true → Known kind
unfolding known
known-bounds kind e =
    record { least = leb-true 1 kind (both_left (leb 1 kind) (leb kind 7) e); most = leb-true kind 7 (both_right (leb 1 kind) (leb kind 7) e) }

pub mixer-is_known : known 7 ≡ true
unfolding known
mixer-is_known = refl

-- a module type that is not the mixer
pub kind-fixed : (kind : ℕ) → known kind ≡ true → (kind ≡ 7 → ⊥) → fixed kind ≡ true
unfolding fixed
kind-fixed kind e n =
    let k = known-bounds kind e in
    rw (le-leb 1 kind k.least, le-leb kind 6 (omega arith))

-- what holds of each of the six holds of every type that the catalogue has
pub each_type : (P : ℕ → Type 0) → P 1 → P 2 → P 3 → P 4 → P 5 → P 6 → (kind : ℕ) → fixed kind ≡ true → P kind
each_type P a b c d e f kind k = go kind (fixed-bounds kind k)
  where
    go : (n : ℕ) → Fixed n → P n
    go zero h = absurd (omega arith)
    go (suc zero) h = a
    go (suc (suc zero)) h = b
    go (suc (suc (suc zero))) h = c
    go (suc (suc (suc (suc zero)))) h = d
    go (suc (suc (suc (suc (suc zero))))) h = e
    go (suc (suc (suc (suc (suc (suc zero)))))) h = f
    go (suc (suc (suc (suc (suc (suc (suc n))))))) h = absurd (omega arith)

-- a number of a type, where the type is told by a number
pub at-type : (g : ℕ → ℕ) (kind type n : ℕ) → kind ≡ type → n ≡ g type → n ≡ g kind
at-type g kind type n e h = h ∙ ap g (sym e)

-- and there are no others
pub no_other {ℓ} : {A : Type ℓ} (kind : ℕ) → fixed kind ≡ true → (kind ≡ 1 → ⊥) → (kind ≡ 2 → ⊥) → (kind ≡ 3 → ⊥) → (kind ≡ 4 → ⊥) → (kind ≡ 5 → ⊥) → (kind ≡ 6 → ⊥) → A
no_other kind e a b c d f g = let k = fixed-bounds kind e in absurd (omega arith)

-- the test of a number, as code makes it: at least 1, and then at most 6
pub fixed-low : (kind : ℕ) → kind < 1 → false ≡ fixed kind
unfolding fixed
fixed-low kind l = rw (lt-leb 1 kind l)

pub fixed-high : (kind : ℕ) → 1 ≤ kind → leb kind 6 ≡ fixed kind
unfolding fixed
fixed-high kind l = rw (le-leb 1 kind l)

-- they are module types, and the mixer is the only other one
pub fixed-kind : (kind : ℕ) → fixed kind ≡ true → known kind ≡ true
unfolding known
fixed-kind kind e = let k = fixed-bounds kind e in rw (le-leb 1 kind k.least, le-leb kind 7 (omega arith))

pub fixed-not_mixer : (kind : ℕ) → fixed kind ≡ true → kind ≡ 7 → ⊥
fixed-not_mixer kind e h = let k = fixed-bounds kind e in omega arith

pub other_unknown : (kind : ℕ) → fixed kind ≡ false → (kind ≡ 7 → ⊥) → known kind ≡ false
other_unknown kind e n = go (known kind) refl
  where
    go : (b : Bool) → known kind ≡ b → b ≡ false
    go true k = never (sym e ∙ kind-fixed kind k n)
    go false k = refl

pub only_mixer : (kind : ℕ) → known kind ≡ true → fixed kind ≡ false → kind ≡ 7
only_mixer kind k f = go (eqb kind 7) refl
  where
    go : (b : Bool) → eqb kind 7 ≡ b → kind ≡ 7
    go true e = eqb-true kind 7 e
    go false e = never (sym f ∙ kind-fixed kind k (eqb-false kind 7 e))

-- ---- layouts

size-bounds : (n : ℕ) → size_right n ≡ true → (1 ≤ n) × (n ≤ 32)
unfolding size_right
size-bounds n e = (leb-true 1 n (both_left (leb 1 n) (leb n 32) e), leb-true n 32 (both_right (leb 1 n) (leb n 32) e))

-- the test of a size, as code makes it: at least 1, and then at most 32
pub size_low : (n : ℕ) → n < 1 → false ≡ size_right n
unfolding size_right
size_low n l = rw (lt-leb 1 n l)

pub size-high : (n : ℕ) → 1 ≤ n → leb n 32 ≡ size_right n
unfolding size_right
size-high n l = rw (le-leb 1 n l)

-- a layout is known where its kind is a type other than the mixer, or the mixer and its size is right
pub fixed-known : (l : Layout) → known l.kind ≡ true → (l.kind ≡ 7 → ⊥) → known_layout l ≡ true
unfolding known_layout
fixed-known l k n = rw (k, ne_eqb l.kind 7 n)

pub mixer-known : (l : Layout) → l.kind ≡ 7 → size_right l.inputs ≡ true → size_right l.outputs ≡ true → known_layout l ≡ true
unfolding known_layout known
mixer-known l k a b = rw (k, a, b)

module _ (l : Layout) where
  module _ (k : known_layout l ≡ true) where
    abbrev sizes_right : Bool
    sizes_right = size_right l.inputs && size_right l.outputs

    -- a module's kind is a type
    pub known-kind : known l.kind ≡ true
    unfolding known_layout
    known-kind = both_left (known l.kind) (not (eqb l.kind 7) || sizes_right) k

    pub known-fixed : (l.kind ≡ 7 → ⊥) → fixed l.kind ≡ true
    known-fixed n = kind-fixed l.kind known-kind n

    -- and a mixer's size is right
    pub mixer-size : l.kind ≡ 7 → MixerSize l.inputs l.outputs
    unfolding known_layout
    mixer-size e =
        let both : sizes_right ≡ true = rw (eq-eqb l.kind 7 e) at (both_right (known l.kind) (not (eqb l.kind 7) || sizes_right) k) in
        let i = size-bounds l.inputs (both_left (size_right l.inputs) (size_right l.outputs) both) in
        let o = size-bounds l.outputs (both_right (size_right l.inputs) (size_right l.outputs) both) in
        record { some_inputs = i.0; inputs_most = i.1; some_outputs = o.0; outputs_most = o.1 }

  -- its rows
  pub mixer_rows_lem : l.kind ≡ 7 → rows_of l ≡ mixer_rows l.inputs l.outputs
  unfolding rows_of
  mixer_rows_lem e = rw (eq-eqb l.kind 7 e)

  pub fixed-rows : (l.kind ≡ 7 → ⊥) → rows_of l ≡ rows_in l.kind catalogue
  unfolding rows_of
  fixed-rows n = rw (ne_eqb l.kind 7 n)

-- a mixer, or a module of another type
pub data Laid (l : Layout) : Type 0 where
  other : (l.kind ≡ 7 → ⊥) → Laid l
  mixer : l.kind ≡ 7 → Laid l

pub laid : (l : Layout) → Laid l
laid l = go (eqb l.kind 7) refl
  where
    go : (b : Bool) → eqb l.kind 7 ≡ b → Laid l
    go true e = mixer (eqb-true l.kind 7 e)
    go false e = other (eqb-false l.kind 7 e)

-- no module has more rows than the limit
few_in : (kind : ℕ) → fixed kind ≡ true → length (rows_in kind catalogue) ≤ row_limit
unfolding row_limit rows_in catalogue level switch number minus
few_in = each_type (λ k. length (rows_in k catalogue) ≤ row_limit) (lit≤ tt) (lit≤ tt) (lit≤ tt) (lit≤ tt) (lit≤ tt) (lit≤ tt)

pub rows_few : (l : Layout) → known_layout l ≡ true → length (rows_of l) ≤ row_limit
unfolding row_limit
rows_few l k = go (laid l)
  where
    go : Laid l → length (rows_of l) ≤ row_limit
    go (other n) = rw (fixed-rows l n) (few_in l.kind (known-fixed l k n))
    go (mixer e) = rw (mixer_rows_lem l e) (mixer-few l.inputs l.outputs (mixer-size l k e))

-- ---- a row by its number among the rows of its module

at-any : (rs : List Row) (n : ℕ) (d e : Row) → n < length rs → get_or rs n d ≡ get_or rs n e
at-any rs n d e h =
    let p = drop-cons rs n d h in
    let q = drop-cons rs n e h in
    cc

pub rows_at : (l : Layout) (n : ℕ) (d : Row) → n < length (rows_of l) → get_or (rows_of l) n d ≡ row_of l n
unfolding row_of
rows_at l n d h = at-any (rows_of l) n d no_row h

-- the rows from a number on: that row, and those from the next on
pub rows_from : (l : Layout) (n : ℕ) → n < length (rows_of l) → drop n (rows_of l) ≡ row_of l n ∷ drop (n + 1) (rows_of l)
unfolding row_of
rows_from l n h = rw add-one (drop-cons (rows_of l) n no_row h)

-- a mixer's is computed
module _ (l : Layout) (e : l.kind ≡ 7) where
  pub mixer-counts : 3 * l.inputs + 2 * l.outputs ≡ length (rows_of l)
  unfolding mixer_count
  mixer-counts = rw (mixer_rows_lem l e) (sym (mixer_length_lem l.inputs l.outputs))

  pub mixer_row-of : (n : ℕ) → n < length (rows_of l) → row_of l n ≡ mixer_row l.inputs l.outputs n
  unfolding row_of
  mixer_row-of n h =
      let few : n < length (mixer_rows l.inputs l.outputs) = rw (mixer_rows_lem l e) at h in
      rw (mixer_rows_lem l e) (mixer-at l.inputs l.outputs n no_row (omega (arith, mixer_length_lem l.inputs l.outputs)))

-- ---- the test of a kind, as code makes it: a module of no other type is a mixer

pub kind-flag : (kind : ℕ) (t b : Bool) → t ≡ fixed kind → t ≡ b → fixed kind ≡ b
kind-flag kind t b e h = sym e ∙ h

module _ (l : Layout) (k : known_layout l ≡ true) (o : fixed l.kind ≡ false) where
  pub kind-mixer : l.kind ≡ 7
  kind-mixer = only_mixer l.kind (known-kind l k) o

  pub over_size : MixerSize l.inputs l.outputs
  over_size = mixer-size l k kind-mixer

  pub over_counts : 3 * l.inputs + 2 * l.outputs ≡ length (rows_of l)
  over_counts = mixer-counts l kind-mixer

module _ (l : Layout) (o : fixed l.kind ≡ true) where
  pub under_rows : rows_of l ≡ rows_in l.kind catalogue
  under_rows = fixed-rows l (fixed-not_mixer l.kind o)

  pub under_counts : (n : ℕ) → n ≡ length (rows_in l.kind catalogue) → n ≡ length (rows_of l)
  under_counts n e = rw under_rows e

pub ruleset kinds = (fixed-low, fixed-high)

pub ruleset counting = (kind-flag, over_counts, under_counts)
