-- Laws of the outputs in which two words differ: where there are none the words are the same, and where there is one alone, putting it makes the one word the other.
use Rattle.std.specs.Prelude.{◌≡◌, Bool, ℕ, zero, suc, ◌^◌, ◌≤◌, ◌<◌}
use Rattle.std.proofs.Math.Path.{refl}
use Rattle.std.proofs.Common.{sym, ◌∙◌, ap, arith}
use Rattle.std.proofs.Math.Bool.{true, false}
use mathlib.Core.List.{List, [], ◌∷◌}
use Rattle.std.proofs.Math.Decide.{dec_le}
use borrow.Author.Tests.{eq-eqb, ne_eqb, eqb-true, eqb-false}
use Rattle.std.proofs.Math.Dec.{eqb}
use Rattle.text.specs.Word.{bit, with_bit, differing_to, differing, single, only_differing}
use Rattle.text.specs.Word.Outputs.{output_small, output_put, outputs_left, outputs_same, word-stays}

-- ---- one output more

pub same_step : (o v w : ℕ) → bit (suc o) v ≡ bit (suc o) w → differing_to (suc o) v w ≡ differing_to o v w
unfolding differing_to
same_step o v w h = rw (eq-eqb (bit (suc o) v) (bit (suc o) w) h)

pub apart_step : (o v w : ℕ) → (bit (suc o) v ≡ bit (suc o) w → ⊥) → differing_to (suc o) v w ≡ suc o ∷ differing_to o v w
unfolding differing_to
apart_step o v w h = rw (ne_eqb (bit (suc o) v) (bit (suc o) w) h)

-- the next output is the same in both, or it comes to the list
data Step (o v w : ℕ) : Type 0 where
  alike : bit (suc o) v ≡ bit (suc o) w → differing_to (suc o) v w ≡ differing_to o v w → Step o v w
  unlike : (bit (suc o) v ≡ bit (suc o) w → ⊥) → differing_to (suc o) v w ≡ suc o ∷ differing_to o v w → Step o v w

stepped : (o v w : ℕ) → Step o v w
stepped o v w = go (eqb (bit (suc o) v) (bit (suc o) w)) refl
  where
    go : (t : Bool) → eqb (bit (suc o) v) (bit (suc o) w) ≡ t → Step o v w
    go true q = let h = eqb-true (bit (suc o) v) (bit (suc o) w) q in alike h (same_step o v w h)
    go false q = let h = eqb-false (bit (suc o) v) (bit (suc o) w) q in unlike h (apart_step o v w h)

-- ---- none, one alone

to_none : (v w : ℕ) → differing_to 0 v w ≡ []
unfolding differing_to
to_none v w = refl

not_none {ℓ} : {A : Type ℓ} (o : ℕ) (os : List ℕ) → o ∷ os ≡ [] → A
not_none o os e = absurd (let z : ◌≡◌ {A = ℕ} 0 1 = cc in omega arith)

pub none_to : (n v w : ℕ) → ((o : ℕ) → 1 ≤ o → o ≤ n → bit o v ≡ bit o w) → differing_to n v w ≡ []
none_to zero v w h = to_none v w
none_to (suc n) v w h = same_step n v w (h (suc n) (omega arith) (omega arith)) ∙ none_to n v w (λ o l m. h o l (omega arith))

pub same-to : (n v w : ℕ) → differing_to n v w ≡ [] → (o : ℕ) → 1 ≤ o → o ≤ n → bit o v ≡ bit o w
same-to zero v w e o l m = absurd (omega arith)
same-to (suc n) v w e o l m = go (stepped n v w) (dec_le o n) (λ q k. same-to n v w q o l k)
  where
    go : Step n v w → Dec (o ≤ n) → (differing_to n v w ≡ [] → o ≤ n → bit o v ≡ bit o w) → bit o v ≡ bit o w
    go (alike b d) (yes k) ih = ih (sym d ∙ e) k
    go (alike b d) (no k) ih = let f : o ≡ suc n = omega arith in rw f b
    go (unlike b d) x ih = not_none (suc n) (differing_to n v w) (sym d ∙ e)

-- where one output alone differs, every other is the same
others_to : (n v w o : ℕ) → differing_to n v w ≡ o ∷ [] → (p : ℕ) → 1 ≤ p → p ≤ n → (o ≡ p → ⊥) → bit p v ≡ bit p w
others_to zero v w o e p l m n = absurd (omega arith)
others_to (suc n) v w o e p l m other = go (stepped n v w) (dec_le p n) (λ q k. others_to n v w o q p l k other)
  where
    go : Step n v w → Dec (p ≤ n) → (differing_to n v w ≡ o ∷ [] → p ≤ n → bit p v ≡ bit p w) → bit p v ≡ bit p w
    go (alike b d) (yes k) ih = ih (sym d ∙ e) k
    go (alike b d) (no k) ih = let f : p ≡ suc n = omega arith in rw f b
    go (unlike b d) (yes k) ih =
        let f : suc n ∷ differing_to n v w ≡ o ∷ [] = sym d ∙ e in
        let g : differing_to n v w ≡ [] = cc in
        same-to n v w g p l k
    go (unlike b d) (no k) ih =
        let f : suc n ∷ differing_to n v w ≡ o ∷ [] = sym d ∙ e in
        let g : suc n ≡ o = cc in
        absurd (other (omega arith))

first_to : (n v w o : ℕ) (os : List ℕ) → differing_to n v w ≡ o ∷ os → (1 ≤ o) × (o ≤ n)
first_to zero v w o os e = not_none o os (sym e ∙ to_none v w)
first_to (suc n) v w o os e = go (stepped n v w) (first_to n v w o os)
  where
    go : Step n v w → (differing_to n v w ≡ o ∷ os → (1 ≤ o) × (o ≤ n)) → (1 ≤ o) × (o ≤ suc n)
    go (alike b d) ih = let r = ih (sym d ∙ e) in (r.0, omega (arith, r.1))
    go (unlike b d) ih =
        let f : suc n ∷ differing_to n v w ≡ o ∷ os = sym d ∙ e in
        let g : suc n ≡ o = cc in
        (omega arith, omega arith)

-- what is told differs
differs_to : (n v w o : ℕ) (os : List ℕ) → differing_to n v w ≡ o ∷ os → bit o v ≡ bit o w → ⊥
differs_to zero v w o os e = not_none o os (sym e ∙ to_none v w)
differs_to (suc n) v w o os e = go (stepped n v w) (differs_to n v w o os)
  where
    go : Step n v w → (differing_to n v w ≡ o ∷ os → bit o v ≡ bit o w → ⊥) → bit o v ≡ bit o w → ⊥
    go (alike b d) ih h = ih (sym d ∙ e) h
    go (unlike b d) ih h =
        let f : suc n ∷ differing_to n v w ≡ o ∷ os = sym d ∙ e in
        let g : suc n ≡ o = cc in
        b (rw g h)

-- output o, or none
pub data OnlyAt (o : ℕ) : List ℕ → Type 0 where
  nowhere : OnlyAt o []
  there : OnlyAt o (o ∷ [])

only_to : (n o v w : ℕ) → ((p : ℕ) → 1 ≤ p → p ≤ n → (o ≡ p → ⊥) → bit p v ≡ bit p w) → OnlyAt o (differing_to n v w)
only_to zero o v w h = rw (to_none v w) nowhere
only_to (suc n) o v w h = go (stepped n v w) (eqb o (suc n)) refl (only_to n o v w (λ p l m other. h p l (omega arith) other))
  where
    go : Step n v w → (t : Bool) → eqb o (suc n) ≡ t → OnlyAt o (differing_to n v w) → OnlyAt o (differing_to (suc n) v w)
    go (alike b d) t r ih = rw d ih
    go (unlike b d) true r ih =
        let f = eqb-true o (suc n) r in
        let z : differing_to n v w ≡ [] = none_to n v w (λ p l m. h p l (omega arith) (λ g. omega arith)) in
        rw (d, z, ← f) there
    go (unlike b d) false r ih = absurd (b (h (suc n) (omega arith) (omega arith) (eqb-false o (suc n) r)))

-- ---- two words

pub differ-not : (v w : ℕ) → v ≡ w → differing v w ≡ []
unfolding differing
differ-not v w e = none_to 32 v w (λ o l m. ap (bit o) e)

-- an output in which two words differ
pub differ-at : (v w o : ℕ) (os : List ℕ) → differing v w ≡ o ∷ os → bit o v ≡ bit o w → ⊥
unfolding differing
differ-at v w o os e = differs_to 32 v w o os e

module _ (v w : ℕ) (p : v < 2 ^ 32) (q : w < 2 ^ 32) where
  -- words that differ nowhere are the same
  pub differ-nowhere : differing v w ≡ [] → v ≡ w
  unfolding differing
  differ-nowhere e = outputs_same v w p q (same-to 32 v w e)

  -- where one output alone differs, the one word with it put is the other
  pub differ-alone : (o : ℕ) → differing v w ≡ o ∷ [] → with_bit o (bit o w) v ≡ w
  unfolding differing
  differ-alone o e =
      let r = first_to 32 v w o [] e in
      let s = output_small o w in
      outputs_same (with_bit o (bit o w) v) w (word-stays o (bit o w) v s r.0 p) q (λ j l m. go (eqb o j) j refl l m)
    where
      go : (t : Bool) (j : ℕ) → eqb o j ≡ t → 1 ≤ j → j ≤ 32 → bit j (with_bit o (bit o w) v) ≡ bit j w
      go true j f l m = let g = eqb-true o j f in rw (← g) (output_put o (bit o w) v (output_small o w))
      go false j f l m =
          let d = eqb-false o j f in
          outputs_left o j (bit o w) v (output_small o w) (first_to 32 v w o [] e).1 m d ∙ others_to 32 v w o e j l m d

-- where putting output o leaves no difference, there was none but in o
pub put_nowhere : (o b v x : ℕ) → b < 2 → o ≤ 32 → differing (with_bit o b v) x ≡ [] → OnlyAt o (differing v x)
unfolding differing
put_nowhere o b v x h m e =
    only_to 32 o v x (λ p l k d. sym (outputs_left o p b v h m k d) ∙ same-to 32 (with_bit o b v) x e p l k)

-- ---- the one output told, or 0

-- what is told of two words, and what it says
pub data Differ (v w : ℕ) : ℕ → Type 0 where
  same : differing v w ≡ [] → Differ v w 0
  alone : (o : ℕ) → 1 ≤ o → o ≤ 32 → differing v w ≡ o ∷ [] → Differ v w o
  more : (o p : ℕ) (os : List ℕ) → differing v w ≡ o ∷ p ∷ os → Differ v w 0

pub only_told : (v w : ℕ) → Differ v w (only_differing v w)
unfolding only_differing differing single
only_told v w = go (differing_to 32 v w) refl
  where
    go : (os : List ℕ) → differing_to 32 v w ≡ os → Differ v w (single os)
    go [] e = same e
    go (o ∷ []) e = let r = first_to 32 v w o [] e in alone o r.0 r.1 e
    go (o ∷ p ∷ os) e = more o p os e
