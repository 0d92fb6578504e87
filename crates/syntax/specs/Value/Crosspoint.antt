-- What a switch's text makes of one output of a routing word: which values it may say, and the code that reads it.
use Rattle.std.proofs.Math.Path.{◌≡◌, refl, sym, ap}
use Rattle.std.proofs.Common.{◌∙◌, arith, to_z-of_z, SFits, to_z}
use Rattle.std.specs.Prelude.{List, ℕ, zero, suc, ◌-◌, ◌≤◌, ◌<◌, ◌^◌, ℤ, nat_abs, ◌-ℤ◌, Option, Some, None}
use Rattle.std.proofs.Math.IntN.{pos}
use Rattle.std.specs.Int.Signed.{mag}
use Rattle.std.proofs.Math.Facts.{to_z_pos}
use mir.Syntax.{w64}
use Rattle.text.specs.Level.Sign.{kept, kept-size}
use Rattle.text.specs.Switch.{read_switch}
use Rattle.text.specs.Word.{bit, with_bit}
use Rattle.text.specs.Word.Outputs.{output_small, word-stays}
use Rattle.text.specs.declared.switch.Switch.{Switch}
use Rattle.text.specs.declared.switch.Switch.TheVariants as switch
use Rattle.syntax.specs.Value.{of_switch, put_output, read_output}
use Rattle.syntax.specs.Value.Laws.{wrong_value}

-- the present word with the output on or off; the text is a switch's
pub data OutputSays (o : ℕ) (present : ℤ) (s : List ℕ) : ℤ → Type 0 where
  puts : (b : ℕ) → b < 2 → (read_switch s ≡ None → ⊥) → OutputSays o present s (pos (with_bit o b (nat_abs present)))

turned : (b : ℕ) → b < 2 → (pos 1 -ℤ pos b) ≡ pos (1 - b)
turned zero h = refl
turned (suc zero) h = refl
turned (suc (suc b)) h = absurd (omega arith)

module _ (o : ℕ) (present : ℤ) (s : List ℕ) where
  pub output_told : (x : ℤ) → read_output o present s ≡ Some x → OutputSays o present s x
  unfolding read_output put_output of_switch
  output_told x h = go (read_switch s) refl h
    where
      go : (w : Option Switch) → read_switch s ≡ w → put_output o present (of_switch (pos (bit o (nat_abs present))) w) ≡ Some x → OutputSays o present s x
      go (Some switch.On) e h = let q : pos (with_bit o 1 (nat_abs present)) ≡ x = cc in rw (← q) (puts 1 (omega arith) (λ f. let z : ◌≡◌ {A = ℕ} 0 1 = cc in omega arith))
      go (Some switch.Off) e h = let q : pos (with_bit o 0 (nat_abs present)) ≡ x = cc in rw (← q) (puts 0 (omega arith) (λ f. let z : ◌≡◌ {A = ℕ} 0 1 = cc in omega arith))
      go (Some switch.Turn) e h =
          let t = turned (bit o (nat_abs present)) (output_small o (nat_abs present)) in
          let q : pos (with_bit o (nat_abs (pos 1 -ℤ pos (bit o (nat_abs present)))) (nat_abs present)) ≡ x = cc in
          let r : pos (with_bit o (1 - bit o (nat_abs present)) (nat_abs present)) ≡ x = ap (λ b. pos (with_bit o (nat_abs b) (nat_abs present))) (sym t) ∙ q in
          rw (← r) (puts (1 - bit o (nat_abs present)) (omega (arith, output_small o (nat_abs present))) (λ f. let z : ◌≡◌ {A = ℕ} 0 1 = cc in omega arith))
      go None e h = wrong_value x h

  pub output_on : read_switch s ≡ Some switch.On → read_output o present s ≡ Some (pos (with_bit o 1 (nat_abs present)))
  unfolding read_output put_output of_switch
  output_on e = rw e

  pub output_off : read_switch s ≡ Some switch.Off → read_output o present s ≡ Some (pos (with_bit o 0 (nat_abs present)))
  unfolding read_output put_output of_switch
  output_off e = rw e

  -- what is said is again a word
  pub output_within : (x : ℤ) → 1 ≤ o → nat_abs present < 2 ^ 32 → read_output o present s ≡ Some x → SFits w64 x
  output_within x some small h = go (output_told x h)
    where
      go : {x : ℤ} → OutputSays o present s x → SFits w64 x
      go (puts b l n) = record { sfits = omega (arith, word-stays o b (nat_abs present) l some small) }

-- ---- rules for the code

-- a switch's value is 0 or 1
record Bit (b : ℤ) : Type 0 where
  n : ℕ
  small : n < 2
  is : b ≡ pos n

switch-bit : (had : ℕ) → had < 2 → (w : Option Switch) (b : ℤ) → of_switch (pos had) w ≡ Some b → Bit b
unfolding of_switch
switch-bit had l (Some switch.On) b h = record { n = 1; small = omega arith; is = (cc) }
switch-bit had l (Some switch.Off) b h = record { n = 0; small = omega arith; is = (cc) }
switch-bit had l (Some switch.Turn) b h = record { n = 1 - had; small = omega arith; is = let q : (pos 1 -ℤ pos had) ≡ b = cc in sym q ∙ turned had l }
switch-bit had l None b h = wrong_value b h

bit-size : (b : ℤ) → Bit b → nat_abs (kept b) ≡ nat_abs b
bit-size b h =
    let f : SFits w64 (pos h.n) = record { sfits = omega (arith, h.small) } in
    rw h.is (ap nat_abs (to_z-of_z f))

-- of any output, whichever word it is in: what is said of it is a bit again
module _ (o word had : ℕ) (h : had ≡ bit o word) where
  had_small : had < 2
  had_small = omega (arith, output_small o word)

  had_plain : to_z w64 had ≡ pos had
  had_plain = to_z_pos w64 {n = had} (omega (arith, had_small))

  pub had_fits : SFits w64 (pos had)
  had_fits = record { sfits = omega (arith, had_small) }

  pub had_near : mag (to_z w64 had) < 2 ^ 62
  had_near = rw had_plain (omega (arith, had_small))

  module _ (s : List ℕ) (b : ℤ) (g : Some b ≡ of_switch (to_z w64 had) (read_switch s)) (size : ℕ) (m : size ≡ nat_abs (kept b)) where
    bit_is : Bit b
    bit_is = switch-bit had had_small (read_switch s) b (rw had_plain at (sym g))

    size_is : size ≡ nat_abs b
    size_is = m ∙ bit-size b bit_is

    pub size_small : size < 2
    size_small = let q : nat_abs b ≡ bit_is.n = ap nat_abs bit_is.is in omega (arith, size_is, bit_is.small)

-- any word with an output put into it
pub put_fits : (o b word w : ℕ) → w ≡ with_bit o b word → b < 2 → 1 ≤ o → word < 2 ^ 32 → SFits w64 (pos w)
put_fits o b word w e l some small = record { sfits = omega (arith, e, word-stays o b word l some small) }

module _ (present : ℤ) (f : SFits w64 present) (word : ℕ) (e : word ≡ nat_abs (kept present)) where
  whole : word ≡ nat_abs present
  whole = e ∙ kept-size present f

  pub word_small : nat_abs present < 2 ^ 32 → word < 2 ^ 32
  word_small h = rw whole h

  module _ (o had : ℕ) (h : had ≡ bit o word) (s : List ℕ) where
    said : (v : Option ℤ) → v ≡ of_switch (to_z w64 had) (read_switch s) → put_output o present v ≡ read_output o present s
    unfolding read_output
    said v g = ap (put_output o present) (g ∙ rw (had_plain o word had h, h, whole))

    pub output_wrong : None ≡ of_switch (to_z w64 had) (read_switch s) → None ≡ read_output o present s
    unfolding put_output
    output_wrong g = said None g

    pub output_put : (b : ℤ) → Some b ≡ of_switch (to_z w64 had) (read_switch s) → (size : ℕ) → size ≡ nat_abs (kept b) → (w : ℕ) → w ≡ with_bit o size word
        → nat_abs present < 2 ^ 32 → 1 ≤ o → Some (to_z w64 w) ≡ read_output o present s
    unfolding put_output
    output_put b g size m w p small some =
        let below : w < 2 ^ 32 = rw p (word-stays o size word (size_small o word had h s b g size m) some (word_small small)) in
        let q : w ≡ with_bit o (nat_abs b) (nat_abs present) = rw (← size_is o word had h s b g size m, ← whole) p in
        rw (to_z_pos w64 {n = w} (omega (arith, below)), q) (said (Some b) g)

pub ruleset output_rules = (had_fits, had_near, size_small, put_fits, word_small, output_wrong, output_put)
