-- Rules for the code that judges a value by a mixer's row: a row's indices do not matter.
use Rattle.std.specs.Prelude.{◌≡◌, Bool, ℕ, ◌+◌, ◌-◌, ◌*◌, ◌%◌, ◌≤◌, ◌<◌, ℤ}
use Rattle.std.proofs.Math.Path.{refl}
use Rattle.std.proofs.Common.{◌∙◌, arith, to_z-of_z, SFits}
use Rattle.std.specs.Int.{w64}
use Rattle.catalogue.specs.Catalogue.Fits.{fits, row_fits}
use Rattle.catalogue.specs.Mixer.{channel_row, fader, mixer_row, mute, route_row}
use Rattle.catalogue.specs.Mixer.Indexed.{Channel, Stands, channel_is, row_stands}
use Rattle.catalogue.specs.Mixer.Indexed as stands
use Rattle.catalogue.specs.Mixer.Right.{word_fits}
use Rattle.catalogue.specs.Row.{RowFits, permitted}
use Rattle.catalogue.specs.Row.Laws.{bits}
use Rattle.catalogue.specs.declared.row.Row.{Row}

-- ---- their arithmetic stays within 64 bits

module _ (group j : ℕ) (r : Row) where
  pub level-fits : r ≡ fader group j → RowFits r
  unfolding fits fader
  level-fits e = rw e (row_fits (fader group j) refl)

  pub mute-fits : r ≡ mute group j → RowFits r
  unfolding fits mute
  mute-fits e = rw e (row_fits (mute group j) refl)

-- of any number of outputs
pub route_fits : (outputs : ℕ) (r : Row) → r ≡ route_row outputs 0 → RowFits r
route_fits outputs r e = rw e (row_fits (route_row outputs 0) (word_fits outputs 0))

-- ---- a level, a mute and a word

module _ (k : ℕ) (v : ℤ) (r : Row) (t : Bool) (f : SFits w64 v) (p : t ≡ permitted r (bits v)) where
  read : t ≡ permitted r v
  read = rw (to_z-of_z f) at p

  pub level-judged : r ≡ fader 1 1 → k % 2 ≡ 0 → t ≡ permitted (channel_row 1 k) v
  unfolding permitted fader mute
  level-judged e h = read ∙ rw e (go (channel_is 1 k))
    where
      go : {s : Row} → Channel 1 k s → permitted (fader 1 1) v ≡ permitted s v
      go (stands.level a) = refl
      go (stands.switch a) = absurd (omega arith)

  pub mute-judged : r ≡ mute 1 1 → (k % 2 ≡ 0 → ⊥) → t ≡ permitted (channel_row 1 k) v
  unfolding permitted fader mute
  mute-judged e h = read ∙ rw e (go (channel_is 1 k))
    where
      go : {s : Row} → Channel 1 k s → permitted (mute 1 1) v ≡ permitted s v
      go (stands.level a) = absurd (h a)
      go (stands.switch a) = refl

pub ruleset judging_channels = (level-fits, mute-fits, level-judged, mute-judged)

-- a level behind an even number of rows is one among them too, and a mute is
same-channel : (g k h j : ℕ) (v : ℤ) → k % 2 ≡ j % 2 → permitted (channel_row g k) v ≡ permitted (channel_row h j) v
unfolding permitted fader mute
same-channel g k h j v e = go (channel_is g k) (channel_is h j)
  where
    go : {r s : Row} → Channel g k r → Channel h j s → permitted r v ≡ permitted s v
    go (stands.level a) (stands.level b) = refl
    go (stands.level a) (stands.switch b) = absurd (omega arith)
    go (stands.switch a) (stands.level b) = absurd (omega arith)
    go (stands.switch a) (stands.switch b) = refl

module _ (inputs outputs k : ℕ) (v : ℤ) (t : Bool) (f : SFits w64 v) where
  pub channel_judged : k < 2 * inputs + 2 * outputs → t ≡ permitted (channel_row 1 k) (bits v) → t ≡ permitted (mixer_row inputs outputs k) v
  channel_judged l e = (rw (to_z-of_z f) at e) ∙ go (row_stands inputs outputs k)
    where
      go : {r : Row} → Stands inputs outputs k r → permitted (channel_row 1 k) v ≡ permitted r v
      go (stands.input a) = refl
      go (stands.output a b) = same-channel 1 k 2 (k - 2 * inputs) v (omega arith)
      go (stands.route a) = absurd (omega arith)

  pub word-judged : (r : Row) → 2 * inputs + 2 * outputs ≤ k → r ≡ route_row outputs 0 → t ≡ permitted r (bits v) → t ≡ permitted (mixer_row inputs outputs k) v
  unfolding permitted route_row
  word-judged r l q e =
      let p : t ≡ permitted r v = rw (to_z-of_z f) at e in
      p ∙ rw q (go (row_stands inputs outputs k))
    where
      go : {s : Row} → Stands inputs outputs k s → permitted (route_row outputs 0) v ≡ permitted s v
      go (stands.input a) = absurd (omega arith)
      go (stands.output a b) = absurd (omega arith)
      go (stands.route a) = refl

pub ruleset judging = (route_fits, channel_judged, word-judged)
