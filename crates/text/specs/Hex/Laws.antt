-- Laws of one hex digit: which bytes are hex digits, that each says its number, and that no other byte says it.
use Rattle.std.specs.Prelude.{◌≡◌, refl, Bool, true, false, ◌&&◌, ◌||◌, ℕ, ◌+◌, ◌-◌, ◌≤◌, ◌<◌, leb}
use Rattle.std.proofs.Math.Decide.{dec_lt}
use Rattle.std.proofs.Common.{arith, lt-ltb, le-ltb, le-leb, leb-true}
use Rattle.std.proofs.lemmas.Bool.{lt-leb}
use Rattle.text.specs.Digits.{is_digit}
use Rattle.text.specs.Digits.Laws.{digit_range}
use Rattle.text.specs.Every.Laws.{both}
use Rattle.text.specs.Hex.{is_hex_digit, hex_value, hex_digit}

-- `0` to `9`, or `A` to `F`
pub data HexByte (b : ℕ) : Type 0 where
  figure : 48 ≤ b → b ≤ 57 → HexByte b
  letter : 65 ≤ b → b ≤ 70 → HexByte b

pub hex_byte : (b : ℕ) → is_hex_digit b ≡ true → HexByte b
unfolding is_hex_digit
hex_byte b h = go (is_digit b) refl h
  where
    go : (t : Bool) → is_digit b ≡ t → (t || (leb 65 b && leb b 70)) ≡ true → HexByte b
    go true e h = let r = digit_range b e in figure r.0 r.1
    go false e h = let r = both (leb 65 b) (leb b 70) h in letter (leb-true 65 b r.0) (leb-true b 70 r.1)

pub is_hex : (b : ℕ) → HexByte b → is_hex_digit b ≡ true
unfolding is_hex_digit is_digit
is_hex b (figure p q) = rw (le-leb 48 b p, le-leb b 57 q)
is_hex b (letter p q) = rw (le-leb 48 b (omega arith), lt-leb b 57 (omega arith), le-leb 65 b p, le-leb b 70 q)

-- ---- what a byte says, and the byte that says a number

figure_value : (b : ℕ) → b ≤ 57 → hex_value b ≡ b - 48
unfolding hex_value
figure_value b h = rw (le-leb b 57 h)

letter_value : (b : ℕ) → 57 < b → hex_value b ≡ b - 65 + 10
unfolding hex_value
letter_value b h = rw (lt-leb b 57 h)

figure_digit : (d : ℕ) → d < 10 → hex_digit d ≡ 48 + d
unfolding hex_digit
figure_digit d h = rw (lt-ltb d 10 h)

letter_digit : (d : ℕ) → 10 ≤ d → hex_digit d ≡ 65 + (d - 10)
unfolding hex_digit
letter_digit d h = rw (le-ltb d 10 h)

pub value_small : (b : ℕ) → is_hex_digit b ≡ true → hex_value b < 16
value_small b h = go (hex_byte b h)
  where
    go : HexByte b → hex_value b < 16
    go (figure p q) = let e = figure_value b q in omega arith
    go (letter p q) = let e = letter_value b (omega arith) in omega arith

pub digit_hex : (d : ℕ) → d < 16 → is_hex_digit (hex_digit d) ≡ true
digit_hex d h = go (dec_lt d 10)
  where
    go : Dec (d < 10) → is_hex_digit (hex_digit d) ≡ true
    go (yes l) = let e = figure_digit d l in is_hex (hex_digit d) (figure (omega arith) (omega arith))
    go (no m) = let e = letter_digit d (omega arith) in is_hex (hex_digit d) (letter (omega arith) (omega arith))

pub digit_says : (d : ℕ) → d < 16 → hex_value (hex_digit d) ≡ d
digit_says d h = go (dec_lt d 10)
  where
    go : Dec (d < 10) → hex_value (hex_digit d) ≡ d
    go (yes l) =
        let e = figure_digit d l in
        let f = figure_value (hex_digit d) (omega arith) in
        omega arith
    go (no m) =
        let e = letter_digit d (omega arith) in
        let f = letter_value (hex_digit d) (omega arith) in
        omega arith

pub value_digit : (b : ℕ) → is_hex_digit b ≡ true → hex_digit (hex_value b) ≡ b
value_digit b h = go (hex_byte b h)
  where
    go : HexByte b → hex_digit (hex_value b) ≡ b
    go (figure p q) =
        let e = figure_value b q in
        let f = figure_digit (hex_value b) (omega arith) in
        omega arith
    go (letter p q) =
        let e = letter_value b (omega arith) in
        let f = letter_digit (hex_value b) (omega arith) in
        omega arith

-- ---- a hex digit as the code tests, takes and makes it

pub below_figures : (b : ℕ) → b < 48 → false ≡ is_hex_digit b
unfolding is_hex_digit is_digit
below_figures b h = rw (lt-leb 48 b h, lt-leb 65 b (omega arith))

pub figure_test : (b : ℕ) → 48 ≤ b → b ≤ 57 → true ≡ is_hex_digit b
unfolding is_hex_digit is_digit
figure_test b p q = rw (le-leb 48 b p, le-leb b 57 q)

pub between : (b : ℕ) → 57 < b → b < 65 → false ≡ is_hex_digit b
unfolding is_hex_digit is_digit
between b p q = rw (le-leb 48 b (omega arith), lt-leb b 57 p, lt-leb 65 b q)

pub letter_test : (b : ℕ) → 65 ≤ b → leb b 70 ≡ is_hex_digit b
unfolding is_hex_digit is_digit
letter_test b h = rw (le-leb 48 b (omega arith), lt-leb b 57 (omega arith), le-leb 65 b h)

pub ruleset hex_bytes = (below_figures, figure_test, between, letter_test)

module _ (b : ℕ) (h : is_hex_digit b ≡ true) where
  pub figure_low : b ≤ 57 → 48 ≤ b
  figure_low l = go (hex_byte b h)
    where
      go : HexByte b → 48 ≤ b
      go (figure p q) = p
      go (letter p q) = omega arith

  pub letter_low : 57 < b → 65 ≤ b
  letter_low l = go (hex_byte b h)
    where
      go : HexByte b → 65 ≤ b
      go (figure p q) = absurd (omega arith)
      go (letter p q) = p

  pub figure_says : b ≤ 57 → b - 48 ≡ hex_value b
  figure_says l = let e = figure_value b l in omega arith

  pub letter_says : 57 < b → b - 65 + 10 ≡ hex_value b
  letter_says l = let e = letter_value b l in omega arith

pub ruleset hex_values = (figure_low, letter_low, figure_says, letter_says)

pub figure_made : (d : ℕ) → d < 10 → 48 + d ≡ hex_digit d
figure_made d h = let e = figure_digit d h in omega arith

pub letter_made : (d : ℕ) → 10 ≤ d → 65 + (d - 10) ≡ hex_digit d
letter_made d h = let e = letter_digit d h in omega arith

pub ruleset hex_made = (figure_made, letter_made)
