-- What the catalogue's rows obey, by one test over the table, a mixer's rows obey at every size: each rule by its levels, mutes and words.
use Rattle.std.specs.Prelude.{◌≡◌, Bool, ℕ, ◌+◌, ◌-◌, ◌*◌, ◌%◌, ◌^◌, ◌≤◌, ◌<◌, pos}
use Rattle.std.proofs.Math.Path.{refl, ap}
use Rattle.std.proofs.Common.{◌∙◌}
use Rattle.std.proofs.Math.Bool.{true}
use Rattle.std.proofs.Math.Nat.{mul-mod_left, zero-mod}
use native.Mathlib.Omega.{arith}
use borrow.Author.Tests.{eq-eqb, le-leb, lt-ltb}
use Rattle.std.proofs.Math.Pow.{high_ones, pow-lt, pow_pos}
use Rattle.text.specs.Every.{every}
use Rattle.catalogue.specs.Catalogue.Fits.{fits}
use Rattle.catalogue.specs.Catalogue.Rules.{row_right}
use Rattle.catalogue.specs.Catalogue.Sized.{sized_bounds, sized_indices, sized_row}
use Rattle.catalogue.specs.Catalogue.Starts.{start_right}
use Rattle.catalogue.specs.Mixer.{MixerSize, channel_row, fader, mixer_count, mixer_row, mixer_rows, mute, route_row}
use Rattle.catalogue.specs.Mixer.Indexed.{Channel, Stands, channel_is, row_stands}
use Rattle.catalogue.specs.Mixer.Indexed as stands
use Rattle.catalogue.specs.Mixer.Tabulated.{mixer-each}
use Rattle.catalogue.specs.Row.{permitted, start}
use Rattle.catalogue.specs.declared.row.Row.{Row}

-- what holds of every level, mute and routing word holds of each row; their indices are small
module _ (test : Row → Bool) (inputs outputs : ℕ) (size : MixerSize inputs outputs)
    (levels : (group j : ℕ) → group < 10 → j < 100 → test (fader group j) ≡ true)
    (mutes : (group j : ℕ) → group < 10 → j < 100 → test (mute group j) ≡ true)
    (words : (k : ℕ) → k < 32 → test (route_row outputs k) ≡ true) where
  channel : (group k : ℕ) → group < 10 → k < 64 → test (channel_row group k) ≡ true
  channel group k g h = go (channel_is group k)
    where
      go : {r : Row} → Channel group k r → test r ≡ true
      go (stands.level e) = levels group (k + 1) g (omega arith)
      go (stands.switch e) = mutes group (k + 1) g (omega arith)

  pub row_tested : (k : ℕ) → k < mixer_count inputs outputs → test (mixer_row inputs outputs k) ≡ true
  unfolding mixer_count
  row_tested k h = go (row_stands inputs outputs k)
    where
      go : {r : Row} → Stands inputs outputs k r → test r ≡ true
      go (stands.input l) = channel 1 k (omega arith) (omega (arith, size.inputs_most))
      go (stands.output l m) = channel 2 (k - 2 * inputs) (omega arith) (omega (arith, size.outputs_most))
      go (stands.route l) = words (k - 2 * inputs - 2 * outputs) (omega (arith, size.inputs_most))

  pub rows_tested : every test (mixer_rows inputs outputs) ≡ true
  rows_tested = mixer-each test inputs outputs row_tested

-- ---- the word with every output

-- is so many steps
whole-steps : (outputs : ℕ) → outputs ≤ 32 → (2 ^ 32 - 2 ^ (32 - outputs)) % 2 ^ (32 - outputs) ≡ 0
whole-steps outputs h =
    let e : outputs + (32 - outputs) ≡ 32 = omega arith in
    let p = high_ones outputs (32 - outputs) in
    let q : 2 ^ 32 - 2 ^ (32 - outputs) ≡ (2 ^ outputs - 1) * 2 ^ (32 - outputs) = rw e at p in
    ap (λ n. n % 2 ^ (32 - outputs)) q ∙ mul-mod_left (2 ^ outputs - 1) (2 ^ (32 - outputs))

step-under : (outputs : ℕ) → 1 ≤ outputs → 2 ^ (32 - outputs) < 2 ^ 32
step-under outputs h = pow-lt {j = 32} (omega arith)

-- its arithmetic stays within 64 bits
pub word_fits : (outputs k : ℕ) → fits (route_row outputs k) ≡ true
unfolding fits route_row
word_fits outputs k =
    rw (lt-ltb (2 ^ 32 - 2 ^ (32 - outputs)) (2 ^ 62) (omega arith), lt-ltb 0 (2 ^ (32 - outputs)) (pow_pos (32 - outputs))) refl

-- ---- the rules

module _ (inputs outputs : ℕ) (size : MixerSize inputs outputs) where
  -- low is below high, and the step divides the span
  word-right : (k : ℕ) → k < 32 → row_right (route_row outputs k) ≡ true
  unfolding row_right route_row
  word-right k h =
      let high = 2 ^ 32 - 2 ^ (32 - outputs) in
      let z : high + 0 ≡ high = omega arith in
      let d : (high + 0) % 2 ^ (32 - outputs) ≡ 0 = ap (λ n. n % 2 ^ (32 - outputs)) z ∙ whole-steps outputs size.outputs_most in
      rw (lt-ltb 0 high (omega (arith, step-under outputs size.some_outputs)), lt-ltb 0 (2 ^ (32 - outputs)) (pow_pos (32 - outputs)), eq-eqb ((high + 0) % 2 ^ (32 - outputs)) 0 d) refl

  pub mixer-right : every row_right (mixer_rows inputs outputs) ≡ true
  unfolding row_right fader mute
  mixer-right = rows_tested row_right inputs outputs size (λ g j a b. refl) (λ g j a b. refl) word-right

  -- a row's arithmetic stays within 64 bits
  pub mixer-fits : every fits (mixer_rows inputs outputs) ≡ true
  unfolding fits fader mute
  mixer-fits = rows_tested fits inputs outputs size (λ g j a b. refl) (λ g j a b. refl) (λ k h. word_fits outputs k)

  -- indices and values are small enough for their texts
  word-sized : (k : ℕ) → k < 32 → sized_row (route_row outputs k) ≡ true
  unfolding sized_row sized_indices sized_bounds route_row
  word-sized k h =
      rw (lt-ltb (k + 1) 100 (omega arith), lt-ltb (2 ^ 32 - 2 ^ (32 - outputs)) (2 ^ 32) (omega (arith, pow_pos (32 - outputs)))) refl

  pub mixer-sized : every sized_row (mixer_rows inputs outputs) ≡ true
  unfolding sized_row sized_indices sized_bounds fader mute
  mixer-sized =
      rows_tested sized_row inputs outputs size (λ g j a b. rw (lt-ltb g 10 a, lt-ltb j 100 b) refl) (λ g j a b. rw (lt-ltb g 10 a, lt-ltb j 100 b) refl) word-sized

  -- the start value is permitted: of a word it is 0
  zero_permitted : (k : ℕ) → permitted (route_row outputs k) (pos 0) ≡ true
  unfolding permitted route_row
  zero_permitted k =
      rw (le-leb 0 (2 ^ 32 - 2 ^ (32 - outputs)) (omega arith), eq-eqb (0 % 2 ^ (32 - outputs)) 0 (zero-mod (2 ^ (32 - outputs)))) refl

  pub word-start : (k : ℕ) → start (route_row outputs k) ≡ pos 0
  unfolding start
  word-start k = rw (zero_permitted k) refl

  pub mixer-starts : every start_right (mixer_rows inputs outputs) ≡ true
  unfolding start permitted fader mute
  mixer-starts =
      rows_tested start_right inputs outputs size (λ g j a b. refl) (λ g j a b. refl) (λ k h. rw (word-start k) (zero_permitted k))
