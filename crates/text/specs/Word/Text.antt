-- Laws of a word's text: what a text that is one tells, that a word is read back from its text, and that no other text says it.
use Rattle.std.specs.Prelude.{◌≡◌, refl, Bool, true, false, cond, ◌&&◌, List, ℕ, ◌^◌, ◌<◌, eqb, length, Some, None}
use Rattle.std.proofs.Common.{sym, arith, eq-eqb, eqb-true}
use Rattle.text.specs.Every.{every}
use Rattle.text.specs.Every.Laws.{both}
use Rattle.text.specs.Hex.{is_hex_digit, hex_digits, hex_on}
use Rattle.text.specs.Hex.Value.{hex_length, hex_are_hex, hex_say, hex_on-bound, hex_only}
use Rattle.text.specs.Word.{hex_text, read_hex}

-- s is eight hex digits that say w
pub record WordText (s : List ℕ) (w : ℕ) : Type 0 where
  pub eight : length s ≡ 8
  pub all : every is_hex_digit s ≡ true
  pub says : hex_on 0 s ≡ w

pub word_read : (s : List ℕ) (w : ℕ) → WordText s w → read_hex s ≡ Some w
unfolding read_hex
word_read s w h = rw (eq-eqb (length s) 8 h.eight, h.all, h.says)

pub word-told : (s : List ℕ) (w : ℕ) → read_hex s ≡ Some w → WordText s w
unfolding read_hex
word-told s w h = go (eqb (length s) 8 && every is_hex_digit s) refl h
  where
    go : (t : Bool) → (eqb (length s) 8 && every is_hex_digit s) ≡ t → cond t (Some (hex_on 0 s)) None ≡ Some w → WordText s w
    go true e r =
        let t = both (eqb (length s) 8) (every is_hex_digit s) e in
        record { eight = eqb-true (length s) 8 t.0; all = t.1; says = cc }
    go false e r = absurd (let z : ◌≡◌ {A = ℕ} 0 1 = cc in omega arith)

pub word_below : (s : List ℕ) (w : ℕ) → read_hex s ≡ Some w → w < 2 ^ 32
word_below s w h =
    let t = word-told s w h in
    let b = hex_on-bound s 0 0 t.all (omega arith) in
    let e : hex_on 0 s < 16 ^ 8 = rw t.eight at b in
    omega (arith, t.says)

-- ---- the text of a word

pub word-length : (w : ℕ) → length (hex_text w) ≡ 8
unfolding hex_text
word-length w = hex_length 8 w

pub word-hex : (w : ℕ) → every is_hex_digit (hex_text w) ≡ true
unfolding hex_text
word-hex w = hex_are_hex 8 w

pub word_back : (w : ℕ) → w < 2 ^ 32 → read_hex (hex_text w) ≡ Some w
unfolding hex_text
word_back w h = word_read (hex_digits 8 w) w (record { eight = hex_length 8 w; all = hex_are_hex 8 w; says = hex_say 8 w h })

-- no other text says it, so none is shorter
pub word-only : (s : List ℕ) (w : ℕ) → read_hex s ≡ Some w → s ≡ hex_text w
unfolding hex_text
word-only s w h =
    let t = word-told s w h in
    sym (rw (t.eight, t.says) at (hex_only 0 s t.all))
