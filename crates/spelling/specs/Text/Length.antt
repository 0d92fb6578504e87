-- How long a value's text is: a rule for each kind.
use Rattle.std.specs.Prelude.{◌≡◌, ℕ, ◌≤◌, ◌<◌, ◌^◌, ℤ, pos, nat_abs, length}
use Rattle.std.proofs.Common.{sym, arith, SFits}
use Rattle.std.specs.Int.{w64}
use Rattle.std.proofs.Math.Facts.{to_z-of_z}
use Rattle.text.specs.Digits.{digits}
use Rattle.text.specs.Digits.Laws.{some_digits}
use Rattle.text.specs.Digits.Value.{digits-short}
use Rattle.text.specs.Level.{level_text}
use Rattle.text.specs.Level.Length.{level-short, zero_shortest as level-zero}
use Rattle.text.specs.Level.Sign.{kept, kept-size_fits}
use Rattle.text.specs.Switch.Laws.{switch-length}
use Rattle.text.specs.Word.Text.{word-length}
use Rattle.catalogue.specs.declared.row.Kind.{Kind}
use Rattle.catalogue.specs.declared.row.Kind.TheVariants as kind
use Rattle.spelling.specs.Text.{text_of}

module _ (k : Kind) (v : ℤ) (r : ℕ) (f : SFits w64 v) where
  pub level_text-is : k ≡ kind.Level → r ≡ length (level_text (kept v)) → r ≡ length (text_of k v)
  unfolding text_of
  level_text-is e h = rw e (rw (to_z-of_z f) at h)

  pub level_text-short : r ≡ length (level_text (kept v)) → r ≤ 23
  level_text-short h = let s = level-short (kept v) (kept-size_fits v f).fits in omega arith

  pub number-text_is : (n : ℕ) → k ≡ kind.Number → n ≡ nat_abs (kept v) → r ≡ length (digits n) → r ≡ length (text_of k v)
  unfolding text_of
  number-text_is n e s h = rw e (rw (s, to_z-of_z f) at h)

  pub number-text_short : (n : ℕ) → n ≡ nat_abs (kept v) → r ≡ length (digits n) → r ≤ 23
  number-text_short n s h =
      let l : nat_abs (kept v) < 2 ^ 64 = (kept-size_fits v f).fits in
      let d = digits-short n 20 (omega arith) (omega arith) in
      omega arith

pub switch_text-is : (k : Kind) (v : ℤ) → k ≡ kind.Switch → 1 ≡ length (text_of k v)
unfolding text_of
switch_text-is k v e = rw e (sym (switch-length (nat_abs v)))

pub word-text_is : (k : Kind) (v : ℤ) → k ≡ kind.Word → 8 ≡ length (text_of k v)
unfolding text_of
word-text_is k v e = rw e (sym (word-length (nat_abs v)))

pub ruleset text_lengths = (level_text-is, level_text-short, number-text_is, number-text_short, switch_text-is, word-text_is)

-- no value of a kind has a shorter text than 0
pub zero_shortest : (k : Kind) (v : ℤ) → length (text_of k (pos 0)) ≤ length (text_of k v)
unfolding text_of
zero_shortest kind.Level v = level-zero v
zero_shortest kind.Switch v = omega (arith, switch-length 0, switch-length (nat_abs v))
zero_shortest kind.Number v = omega (arith, digits-short 0 1 (omega arith) (omega arith), some_digits (nat_abs v))
zero_shortest kind.Word v = omega (arith, word-length 0, word-length (nat_abs v))
