-- How a word's text is read: the digits passed so far, and what each way out of the loop says.
use Rattle.std.specs.Prelude.{◌≡◌, refl, Bool, true, false, List, ◌∷◌, ℕ, ◌+◌, ◌*◌, ◌^◌, ◌≤◌, ◌<◌, length, Some, None}
use Rattle.std.proofs.Common.{sym, ◌∙◌, add-one, arith, eq-eqb, ne_eqb, drop_of_length-le, Fits}
use Rattle.std.proofs.Math.Nat.{pow-suc, pow-le-pow_right}
use Rattle.std.proofs.Math.ListN.{get_or, drop}
use Rattle.std.proofs.Math.Seq.{drop-cons}
use Rattle.std.specs.Int.{w64}
use Rattle.text.specs.Every.{every}
use Rattle.text.specs.Hex.{is_hex_digit, hex_value, hex_on}
use Rattle.text.specs.Hex.Laws.{value_small}
use Rattle.text.specs.Word.{read_hex}
use Rattle.text.specs.Word.Text.{word_read}

-- i hex digits of s are passed, and say n
pub record HexPassed (s : List ℕ) (n i : ℕ) : Type 0 where
  pub eight : length s ≡ 8
  pub within : i ≤ length s
  pub bound : n < 16 ^ i
  pub digits-left : every is_hex_digit s ≡ every is_hex_digit (drop i s)
  pub value_left : hex_on 0 s ≡ hex_on n (drop i s)

pub not_eight : (s : List ℕ) → (length s ≡ 8 → ⊥) → None ≡ read_hex s
unfolding read_hex
not_eight s h = rw (ne_eqb (length s) 8 h)

pub hex_start : (s : List ℕ) → length s ≡ 8 → HexPassed s 0 0
hex_start s h = record { eight = h; within = omega arith; bound = omega arith; digits-left = refl; value_left = refl }

module _ (s : List ℕ) (n i : ℕ) (t : Bool) (p : HexPassed s n i) (l : i < length s) (e : t ≡ is_hex_digit (get_or s i 0)) where
  pub hex_next : (d : ℕ) → t ≡ true → d ≡ hex_value (get_or s i 0) → HexPassed s (n * 16 + d) (i + 1)
  unfolding every hex_on
  hex_next d y q =
      let r = value_small (get_or s i 0) (sym e ∙ y) in
      let f : drop i s ≡ get_or s i 0 ∷ drop (i + 1) s = rw (add-one, drop-cons s i 0) in
      record {
        eight = p.eight;
        within = omega arith;
        bound = rw (add-one i, pow-suc 16 i) (omega (arith, p.bound));
        digits-left = p.digits-left ∙ rw (f, ← e, y);
        value_left = p.value_left ∙ rw (f, q);
      }

  pub hex_wrong : t ≡ false → None ≡ read_hex s
  unfolding read_hex every
  hex_wrong y =
      let f : drop i s ≡ get_or s i 0 ∷ drop (i + 1) s = rw (add-one, drop-cons s i 0) in
      rw (eq-eqb (length s) 8 p.eight, p.digits-left, f, ← e, y)

pub hex_all : (s : List ℕ) (n i : ℕ) → HexPassed s n i → length s ≤ i → Some n ≡ read_hex s
unfolding every hex_on
hex_all s n i p l =
    sym (word_read s n
    (record { eight = p.eight; all = p.digits-left ∙ rw (drop_of_length-le s l); says = p.value_left ∙ rw (drop_of_length-le s l) }))

-- the number stays below 16 ^ 8
module _ (s : List ℕ) (n i : ℕ) (p : HexPassed s n i) (l : i < length s) where
  room : n < 16 ^ 8
  room =
      let k : i ≤ 8 = omega (arith, p.eight) in
      let m : 16 ^ i ≤ 16 ^ 8 = pow-le-pow_right (omega arith) k in
      omega (arith, p.bound)

  pub times_sixteen_fits : Fits w64 (n * 16)
  times_sixteen_fits = let r = room in record { fits = omega arith }

  pub hex_next_fits : (t : Bool) (d : ℕ) → t ≡ is_hex_digit (get_or s i 0) → t ≡ true → d ≡ hex_value (get_or s i 0) → Fits w64 (n * 16 + d)
  hex_next_fits t d e y q =
      let r = room in
      let g = value_small (get_or s i 0) (sym e ∙ y) in
      record { fits = omega arith }

pub ruleset hex_passing = (not_eight, hex_start, hex_next, hex_wrong, hex_all, times_sixteen_fits, hex_next_fits)
