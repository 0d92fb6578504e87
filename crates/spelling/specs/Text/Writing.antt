-- How a value is written: a rule for each call and each return. A callee is handed the value as the code keeps it.
use Rattle.std.specs.Prelude.{◌≡◌, List, ℕ, ◌+◌, ◌≤◌, ℤ, nat_abs, length}
use Rattle.std.proofs.Common.{arith, SFits}
use Rattle.std.specs.Int.{w64}
use Rattle.std.proofs.Math.Facts.{to_z-of_z}
use Rattle.text.specs.Digits.{digits}
use Rattle.text.specs.Digits.Laws.{some_digits}
use Rattle.text.specs.Level.{level_text}
use Rattle.text.specs.Level.Sign.{kept}
use Rattle.text.specs.Switch.{switch_text}
use Rattle.text.specs.Switch.Laws.{switch-length}
use Rattle.text.specs.Word.{hex_text}
use Rattle.text.specs.Word.Text.{word-length}
use Rattle.text.specs.Written.{Wrote}
use Rattle.catalogue.specs.declared.row.Kind.{Kind}
use Rattle.catalogue.specs.declared.row.Kind.TheVariants as kind
use Rattle.spelling.specs.Text.{text_of}

module _ (k : Kind) (v : ℤ) (at : ℕ) (f : SFits w64 v) where
  pub level-room : (long : ℕ) → k ≡ kind.Level → at + length (text_of k v) ≤ long → at + length (level_text (kept v)) ≤ long
  unfolding text_of
  level-room long e h = rw (to_z-of_z f) (rw e at h)

  pub switch-room : (size long : ℕ) → k ≡ kind.Switch → size ≡ nat_abs (kept v) → at + length (text_of k v) ≤ long → at + length (switch_text size) ≤ long
  unfolding text_of
  switch-room size long e s h = rw (s, to_z-of_z f) (rw e at h)

  pub number-room : (size long : ℕ) → k ≡ kind.Number → size ≡ nat_abs (kept v) → at + length (text_of k v) ≤ long → at + length (digits size) ≤ long
  unfolding text_of
  number-room size long e s h = rw (s, to_z-of_z f) (rw e at h)

  -- words have one length, so that another word is refused for its bytes
  pub word_room : (size long : ℕ) → k ≡ kind.Word → at + length (text_of k v) ≤ long → at + length (hex_text size) ≤ long
  unfolding text_of
  word_room size long e h =
      let r = rw e at h in
      omega (arith, word-length size, word-length (nat_abs v))

  -- where there is room for a number there is for a switch, so that a number written as one is refused for its bytes
  pub letter_room : (size long : ℕ) → k ≡ kind.Number → at + length (text_of k v) ≤ long → at + length (switch_text size) ≤ long
  unfolding text_of
  letter_room size long e h =
      let r = rw e at h in
      omega (arith, switch-length size, some_digits (nat_abs v))

  pub wrote_level : (r : ℕ) (l m : List ℕ) → k ≡ kind.Level → Wrote l at (level_text (kept v)) r m → Wrote l at (text_of k v) r m
  unfolding text_of
  wrote_level r l m e w = rw e (rw (to_z-of_z f) at w)

  pub wrote_switch : (size r : ℕ) (l m : List ℕ) → k ≡ kind.Switch → size ≡ nat_abs (kept v) → Wrote l at (switch_text size) r m → Wrote l at (text_of k v) r m
  unfolding text_of
  wrote_switch size r l m e s w = rw e (rw (s, to_z-of_z f) at w)

  pub wrote_number : (size r : ℕ) (l m : List ℕ) → k ≡ kind.Number → size ≡ nat_abs (kept v) → Wrote l at (digits size) r m → Wrote l at (text_of k v) r m
  unfolding text_of
  wrote_number size r l m e s w = rw e (rw (s, to_z-of_z f) at w)

  pub wrote_word : (size r : ℕ) (l m : List ℕ) → k ≡ kind.Word → size ≡ nat_abs (kept v) → Wrote l at (hex_text size) r m → Wrote l at (text_of k v) r m
  unfolding text_of
  wrote_word size r l m e s w = rw e (rw (s, to_z-of_z f) at w)

pub ruleset text_writing = (level-room, switch-room, number-room, word_room, letter_room, wrote_level, wrote_switch, wrote_number, wrote_word)
