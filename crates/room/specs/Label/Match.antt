-- When a text is the label in a field, by its bytes.
use Rattle.std.specs.Prelude.{◌≡◌, refl, Bool, true, false, List, [], ◌∷◌, ℕ, suc, ◌+◌, ◌-◌, ◌≤◌, ◌<◌, eqb, ltb, length, get_or, take, drop}
use Rattle.std.proofs.Common.{sym, ap, ◌∙◌, arith, eqb-true, eq-eqb, ltb-true, ltb-false, length-take, length-drop, drop-cons, get_or-drop, get_or-take, take-take}
use Rattle.std.proofs.Math.ListN.{get_or-eq_default}
use Rattle.text.specs.Cut.{before, index_of}
use Rattle.text.specs.Cut.First.{before_at, before-byte, before-length, index_at}
use Rattle.text.specs.Cut.Laws.{index_found}
use Rattle.text.specs.Every.Laws.{both_left, both_right}
use Rattle.text.specs.Every.{every}
use Rattle.record.specs.Field.{label_byte, label_right}
use Rattle.room.specs.Label.{same}
use Rattle.record.specs.Field.Bytes.{label_right_lem, label-without}

-- ---- the comparison byte for byte

pub same_true : (a b : List ℕ) → same a b ≡ true → a ≡ b
unfolding same
same_true [] [] e = refl
same_true [] (y ∷ b) e = absurd (let z : ◌≡◌ {A = ℕ} 0 1 = cc in omega arith)
same_true (x ∷ a) [] e = absurd (let z : ◌≡◌ {A = ℕ} 0 1 = cc in omega arith)
same_true (x ∷ a) (y ∷ b) e =
    let q = eqb-true x y (both_left (eqb x y) (same a b) e) in
    let r = same_true a b (both_right (eqb x y) (same a b) e) in
    cc

pub same_refl : (a : List ℕ) → same a a ≡ true
unfolding same
same_refl [] = refl
same_refl (x ∷ a) = rw (eq-eqb x x refl) (same_refl a)

pub same_not : (a b : List ℕ) → (a ≡ b → ⊥) → same a b ≡ false
same_not a b n = go (same a b) refl
  where
    go : (r : Bool) → same a b ≡ r → r ≡ false
    go true e = absurd (n (same_true a b e))
    go false e = refl

-- ---- the label against the text

-- the text's bytes from i on stand where the label does
pub record Compared (t text : List ℕ) (label i : ℕ) : Type 0 where
  pub room : label + 32 ≤ length t
  pub within : i ≤ length text
  pub short : length text ≤ 32
  pub bytes : drop i (take (length text) (drop label t)) ≡ drop i text

pub compared_next : (t text : List ℕ) (label i : ℕ) → Compared t text label i → 0 < i → get_or t (label + (i - 1)) 0 ≡ get_or text (i - 1) 0
    → Compared t text label (i - 1)
compared_next t text label i h l e =
    let p = take (length text) (drop label t) in
    let b : i - 1 < length text = omega (arith, h.within) in
    let a : i - 1 < length p = simp (length-take, length-drop) (omega (arith, h.room, h.short)) in
    let g : get_or p (i - 1) 0 ≡ get_or text (i - 1) 0 = get_or-take (length text) (drop label t) (i - 1) 0 b ∙ get_or-drop label t (i - 1) 0 ∙ e in
    let z : suc (i - 1) ≡ i = omega arith in
    record {
      room = h.room;
      within = omega (arith, h.within);
      short = h.short;
      bytes = rw (drop-cons p (i - 1) 0 a, drop-cons text (i - 1) 0 b, z, h.bytes, g);
    }

field_at : (t : List ℕ) (label i : ℕ) → i < 32 → get_or (take 32 (drop label t)) i 0 ≡ get_or t (label + i) 0
field_at t label i l = rw (get_or-take 32 (drop label t) i 0 l, get_or-drop)

field_length : (t : List ℕ) (label : ℕ) → label + 32 ≤ length t → length (take 32 (drop label t)) ≡ 32
field_length t label l = simp (length-take, length-drop) (omega arith)

pub differs : (t text : List ℕ) (label i : ℕ) → length text ≤ 32 → i < length text → (get_or t (label + i) 0 ≡ get_or text i 0 → ⊥)
    → before 0 (take 32 (drop label t)) ≡ text → ⊥
differs t text label i h l n e =
    let f = take 32 (drop label t) in
    let k : i < length (before 0 f) = omega (arith, ap length e) in
    n (sym (field_at t label i (omega arith)) ∙ sym (before-byte 0 f i 0 k) ∙ ap (λ s. get_or s i 0) e)

pub longer : (t text : List ℕ) (label : ℕ) → label + 32 ≤ length t → length text < 32 → (get_or t (label + length text) 0 ≡ 0 → ⊥)
    → before 0 (take 32 (drop label t)) ≡ text → ⊥
longer t text label room s n e =
    let f = take 32 (drop label t) in
    let k : index_of 0 f ≡ length text = sym (before-length 0 f) ∙ ap length e in
    n (sym (field_at t label (length text) s) ∙ rw k at (index_found 0 f))

pub matches : (t text : List ℕ) (label : ℕ) → Compared t text label 0 → label_right text ≡ true
    → (length text < 32 → get_or t (label + length text) 0 ≡ 0) → before 0 (take 32 (drop label t)) ≡ text
matches t text label h r z =
    let f = take 32 (drop label t) in
    let n = length text in
    let whole : take n f ≡ text = take-take n 32 (drop label t) h.short ∙ h.bytes in
    let each : every label_byte (take n f) ≡ true = rw whole (label_right_lem text r).each in
    let none = label-without 0 (λ p. omega arith) (take n f) each in
    let k : index_of 0 f ≡ n = index_at 0 n f (omega (arith, h.short, field_length t label h.room)) none (ended (ltb n 32) refl) in
    before_at 0 f n k ∙ whole
  where
    ended : (b : Bool) → ltb (length text) 32 ≡ b → get_or (take 32 (drop label t)) (length text) 0 ≡ 0
    ended true e = field_at t label (length text) (ltb-true (length text) 32 e) ∙ z (ltb-true (length text) 32 e)
    ended false e =
        let p = ltb-false (length text) 32 e in
        get_or-eq_default (take 32 (drop label t)) 0 (omega (arith, field_length t label h.room))

-- the label's length, told by its first zero byte
pub label-counted : (t : List ℕ) (place r : ℕ) → r ≡ index_of 0 (take (place + 33 - (place + 1)) (drop (place + 1) t))
    → r ≡ length (before 0 (take 32 (drop (place + 1) t)))
label-counted t place r e =
    let z : place + 33 - (place + 1) ≡ 32 = omega arith in
    (rw z at e) ∙ sym (before-length 0 (take 32 (drop (place + 1) t)))
