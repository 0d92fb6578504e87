-- Laws of a body: how long it is, and what a sound one has.
use Rattle.std.specs.Prelude.{◌≡◌, Bool, true, false, cond, not, ◌&&◌, ◌||◌, List, ℕ, ◌≤◌, ◌<◌, eqb, length, get_or, take}
use Rattle.std.proofs.Math.Bool.{and-false}
use Rattle.std.proofs.Common.{arith, eq-eqb, eqb-true, ne_eqb}
use Rattle.text.specs.Cut.{before}
use Rattle.text.specs.Every.Laws.{both}
use Rattle.catalogue.specs.Catalogue.{known}
use Rattle.catalogue.specs.Mixer.{size_right}
use Rattle.record.specs.Body.{body_length, body_sound, sizes_sound}
use Rattle.record.specs.Field.{field_sound, label_right}
use Rattle.record.specs.Field.Bytes.{field_label}

-- a label's field, at least
pub body_long : (kind : ℕ) → 32 ≤ body_length kind
unfolding body_length
body_long kind = go (eqb kind 7)
  where
    go : (b : Bool) → 32 ≤ cond b 34 32
    go true = omega arith
    go false = omega arith

-- at most a mixer's
pub body_most : (kind : ℕ) → body_length kind ≤ 34
unfolding body_length
body_most kind = go (eqb kind 7)
  where
    go : (b : Bool) → cond b 34 32 ≤ 34
    go true = omega arith
    go false = omega arith

pub mixer-body : (kind : ℕ) → kind ≡ 7 → body_length kind ≡ 34
unfolding body_length
mixer-body kind e = rw (eq-eqb kind 7 e)

pub other_body : (kind : ℕ) → (kind ≡ 7 → ⊥) → body_length kind ≡ 32
unfolding body_length
other_body kind n = rw (ne_eqb kind 7 n)

pub record SoundBody (kind : ℕ) (body : List ℕ) : Type 0 where
  pub kinds : known kind ≡ true
  pub long : length body ≡ body_length kind
  pub label : label_right (before 0 (take 32 body)) ≡ true
  pub sizes : kind ≡ 7 → (size_right (get_or body 32 0) ≡ true) × (size_right (get_or body 33 0) ≡ true)

sound-sizes : (kind : ℕ) (body : List ℕ) → (not (eqb kind 7) || sizes_sound body) ≡ true → kind ≡ 7 → (size_right (get_or body 32 0) ≡ true) × (size_right (get_or body 33 0) ≡ true)
unfolding sizes_sound
sound-sizes kind body s e = both (size_right (get_or body 32 0)) (size_right (get_or body 33 0)) (rw (eq-eqb kind 7 e) at s)

pub sound-body : (kind : ℕ) (body : List ℕ) → body_sound kind body ≡ true → SoundBody kind body
unfolding body_sound
sound-body kind body e =
    let sized = eqb (length body) (body_length kind) in
    let field = field_sound (take 32 body) in
    let all = both (known kind && sized && field) (not (eqb kind 7) || sizes_sound body) e in
    let fs = both (known kind && sized) field all.0 in
    let ks = both (known kind) sized fs.0 in
    record {
      kinds = ks.0;
      long = eqb-true (length body) (body_length kind) ks.1;
      label = field_label (take 32 body) fs.1;
      sizes = sound-sizes kind body all.1;
    }

-- a body cut short is not sound
pub cut_short : (kind : ℕ) (body : List ℕ) → length body < body_length kind → body_sound kind body ≡ false
unfolding body_sound
cut_short kind body l =
    let e : eqb (length body) (body_length kind) ≡ false = ne_eqb (length body) (body_length kind) (λ q. omega arith) in
    rw (e, and-false (known kind))
