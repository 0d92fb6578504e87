-- What the tests of a kind and of the bytes behind it leave, for each of their answers.
use Rattle.std.specs.Prelude.{◌≡◌, Bool, not, ◌&&◌, List, ℕ, ◌≤◌, ◌<◌, leb, length, get_or, take}
use Rattle.std.proofs.Math.Path.{refl, sym}
use Rattle.std.proofs.Common.{◌∙◌, arith, length-take-le, take-take}
use Rattle.std.proofs.Math.Bool.{true, false, and-false}
use borrow.Author.Tests.{eq-eqb, leb-false, leb-true, le-leb, lt-leb, ne_eqb, not-true, not-false}
use Rattle.std.proofs.Math.Dec.{eqb}
use Rattle.std.proofs.Math.ListN.{length-take}
use Rattle.std.proofs.Math.Seq.{get_or-take}
use Rattle.catalogue.specs.Catalogue.{fixed, known}
use Rattle.catalogue.specs.Catalogue.Laws.{fixed-kind, fixed-not_mixer, mixer-is_known, only_mixer, other_unknown, size-high, size_low}
use Rattle.catalogue.specs.Mixer.{size_right}
use Rattle.record.specs.Body.{body_length, body_sound, sizes_sound}
use Rattle.record.specs.Body.Begun.{mixer_length, sound_length}
use Rattle.record.specs.Body.Laws.{body_long, cut_short, mixer-body, other_body}
use Rattle.record.specs.Field.{field_sound}

-- ---- a kind, and how long its body is

pub length-mixer : (kind : ℕ) (t : Bool) → known kind ≡ true → t ≡ fixed kind → t ≡ false → 34 ≡ body_length kind
length-mixer kind t k e h = sym (mixer-body kind (only_mixer kind k (sym e ∙ h)))

pub length-other : (kind : ℕ) (t : Bool) → t ≡ fixed kind → t ≡ true → 32 ≡ body_length kind
length-other kind t e h = sym (other_body kind (fixed-not_mixer kind (sym e ∙ h)))

pub ruleset lengths = (length-mixer, length-other)

-- ---- a mixer's size

pub mixer-short : (s : List ℕ) (n : ℕ) → n ≤ 34 → length s < n → 0 ≡ mixer_length s
unfolding mixer_length
mixer-short s n b l = rw (lt-leb 34 (length s) (omega arith))

module _ (s : List ℕ) (t : Bool) (l : 34 ≤ length s) (e : t ≡ size_right (get_or s 32 0)) where
  pub inputs_not : not t ≡ true → 0 ≡ mixer_length s
  unfolding mixer_length sizes_sound
  inputs_not n = let k : size_right (get_or s 32 0) ≡ false = sym e ∙ not-true t n in rw (le-leb 34 (length s) l, k)

  module _ (u : Bool) (n : not t ≡ false) (f : u ≡ size_right (get_or s 33 0)) where
    pub outputs_not : not u ≡ true → 0 ≡ mixer_length s
    unfolding mixer_length sizes_sound
    outputs_not m =
        let k : size_right (get_or s 32 0) ≡ true = sym e ∙ not-false t n in
        let h : size_right (get_or s 33 0) ≡ false = sym f ∙ not-true u m in
        rw (le-leb 34 (length s) l, k, h)

    pub both_right_sizes : not u ≡ false → 34 ≡ mixer_length s
    unfolding mixer_length sizes_sound
    both_right_sizes m =
        let k : size_right (get_or s 32 0) ≡ true = sym e ∙ not-false t n in
        let h : size_right (get_or s 33 0) ≡ true = sym f ∙ not-false u m in
        rw (le-leb 34 (length s) l, k, h)

pub ruleset sizes = (size_low, size-high, mixer-short, inputs_not, outputs_not, both_right_sizes)

-- ---- a sound body that begins some bytes

-- a mixer's, where its label's field is sound
module _ (s : List ℕ) (f : field_sound (take 32 s) ≡ true) where
  seven_long : 34 ≤ length s → mixer_length s ≡ sound_length 7 s
  unfolding mixer_length sound_length sizes_sound body_sound body_length
  seven_long l =
      let field : field_sound (take 32 (take 34 s)) ≡ true = rw (take-take 32 34 s (omega arith)) f in
      rw
      (le-leb 34 (length s) l, mixer-is_known, eq-eqb (length (take 34 s)) 34 (length-take-le 34 s l), field, get_or-take 34 s 32 0 (omega arith), get_or-take 34 s 33 0 (omega arith))

  seven_short : length s < 34 → mixer_length s ≡ sound_length 7 s
  unfolding mixer_length sound_length
  seven_short l =
      let b : body_sound 7 (take (body_length 7) s) ≡ false = cut_short 7 (take (body_length 7) s) (omega (arith, mixer-body 7 refl, length-take (body_length 7) s)) in
      rw (lt-leb 34 (length s) l, b)

  begun-seven : mixer_length s ≡ sound_length 7 s
  begun-seven = go (leb 34 (length s)) refl
    where
      go : (b : Bool) → leb 34 (length s) ≡ b → mixer_length s ≡ sound_length 7 s
      go true p = seven_long (leb-true 34 (length s) p)
      go false p = seven_short (leb-false 34 (length s) p)

module _ (kind : ℕ) (s : List ℕ) where
  unsound : body_sound kind (take (body_length kind) s) ≡ false → 0 ≡ sound_length kind s
  unfolding sound_length
  unsound h = rw h

  unknown : known kind ≡ false → body_sound kind (take (body_length kind) s) ≡ false
  unfolding body_sound
  unknown k = rw k

  unlabelled : field_sound (take 32 (take (body_length kind) s)) ≡ false → body_sound kind (take (body_length kind) s) ≡ false
  unfolding body_sound
  unlabelled h = rw (h, and-false (known kind && eqb (length (take (body_length kind) s)) (body_length kind)))

  -- shorter than a label's field at most
  pub begun-short : (n : ℕ) → n ≤ 32 → length s < n → 0 ≡ sound_length kind s
  begun-short n b l = unsound (cut_short kind (take (body_length kind) s) (omega (arith, length-take (body_length kind) s, body_long kind)))

  module _ (f : Bool) (g : f ≡ field_sound (take 32 s)) where
    pub begun-unlabelled : not f ≡ true → 0 ≡ sound_length kind s
    begun-unlabelled m = unsound (unlabelled (rw (take-take 32 (body_length kind) s (body_long kind)) (sym g ∙ not-true f m)))

    module _ (t : Bool) (m : not f ≡ false) (e : t ≡ fixed kind) where
      pub begun-fixed : 32 ≤ length s → t ≡ true → 32 ≡ sound_length kind s
      unfolding sound_length body_sound
      begun-fixed l h =
          let k : fixed kind ≡ true = sym e ∙ h in
          let field : field_sound (take 32 (take 32 s)) ≡ true = rw (take-take 32 32 s (omega arith)) (sym g ∙ not-false f m) in
          rw
          (other_body kind (fixed-not_mixer kind k), fixed-kind kind k, eq-eqb (length (take 32 s)) 32 (length-take-le 32 s l), field, ne_eqb kind 7 (fixed-not_mixer kind k))

      pub begun-unknown : t ≡ false → (kind ≡ 7 → ⊥) → 0 ≡ sound_length kind s
      begun-unknown h n = unsound (unknown (other_unknown kind (sym e ∙ h) n))

      pub begun-mixer : (r : ℕ) → kind ≡ 7 → r ≡ mixer_length s → r ≡ sound_length kind s
      begun-mixer r k h = h ∙ rw k (begun-seven s (sym g ∙ not-false f m))

-- the label's field is within
pub field_inside : (s : List ℕ) → 32 ≤ length s → length (take 32 s) ≡ 32
field_inside s h = length-take-le 32 s h

pub ruleset bodies = (begun-short, begun-unlabelled, begun-fixed, begun-unknown, begun-mixer, field_inside)
