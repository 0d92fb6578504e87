-- Which routing words a mixer permits, bit by bit: those that have no output above the mixer's outputs.
use Rattle.std.specs.Prelude.{◌≡◌, refl, true, false, ◌&&◌, ◌↔◌, ℕ, ◌+◌, ◌^◌, ◌≤◌, ◌<◌, ltb, pos, negsuc}
use Rattle.std.proofs.Common.{sym, ◌∙◌, arith, le-leb, lt-ltb, ltb-true}
use Rattle.text.specs.Every.Laws.{both}
use Rattle.text.specs.Word.{bit, with_bit}
use Rattle.text.specs.Word.Outputs.{word-stays}
use Rattle.text.specs.Word.Steps.{none_over, none_over-put, off_over, over_off, words_of}
use Rattle.catalogue.specs.Mixer.{route_row}
use Rattle.catalogue.specs.Row.{permitted}

-- w has 32 bits, and no output above `outputs`
pub record WordOf (outputs w : ℕ) : Type 0 where
  pub below : w < 2 ^ 32
  pub off : (o : ℕ) → outputs < o → o ≤ 32 → bit o w ≡ 0

word_test : (outputs k w : ℕ) → outputs ≤ 32 → permitted (route_row outputs k) (pos w) ≡ (ltb w (2 ^ 32) && none_over outputs w)
unfolding permitted route_row
word_test outputs k w h =
    let z : w + 0 ≡ w = omega arith in
    rw (le-leb 0 w (omega arith), z) (words_of outputs w h)

pub word-permitted : (outputs k w : ℕ) → outputs ≤ 32 → WordOf outputs w → permitted (route_row outputs k) (pos w) ≡ true
word-permitted outputs k w h s = word_test outputs k w h ∙ rw (lt-ltb w (2 ^ 32) s.below, off_over outputs w s.off) refl

pub permitted-word : (outputs k w : ℕ) → outputs ≤ 32 → permitted (route_row outputs k) (pos w) ≡ true → WordOf outputs w
permitted-word outputs k w h p =
    let t = both (ltb w (2 ^ 32)) (none_over outputs w) (sym (word_test outputs k w h) ∙ p) in
    record { below = ltb-true w (2 ^ 32) t.0; off = over_off outputs w t.1 }

-- a row of so many outputs permits exactly the words of 32 bits in which every output over that number is off
pub words-permitted : (outputs k w : ℕ) → outputs ≤ 32 → (permitted (route_row outputs k) (pos w) ≡ true) ↔ ((w < 2 ^ 32) × ((o : ℕ) → outputs < o → o ≤ 32 → bit o w ≡ 0))
words-permitted outputs k w h =
    (λ p. let s = permitted-word outputs k w h p in (s.below, s.off), λ s. word-permitted outputs k w h (record { below = s.0; off = s.1 }))

-- a word is not negative
pub negative_refused : (outputs k n : ℕ) → permitted (route_row outputs k) (negsuc n) ≡ false
unfolding permitted route_row
negative_refused outputs k n = refl

-- an output of the mixer may be put on or off
pub put_permitted : (outputs o b w : ℕ) → 1 ≤ o → o ≤ outputs → b < 2 → WordOf outputs w → WordOf outputs (with_bit o b w)
put_permitted outputs o b w l m h s =
    record {
      below = word-stays o b w h l s.below;
      off = over_off outputs (with_bit o b w) (none_over-put outputs o b w m (off_over outputs w s.off));
    }
