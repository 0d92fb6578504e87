-- A level text as far as it is read, and what it says by the bytes that are left.
use Rattle.std.specs.Prelude.{◌≡◌, Bool, true, List, [], ◌∷◌, ℕ, ◌<◌, ℤ, Option, Some, None}
use Rattle.text.specs.Level.{signed, level_tenth, level_point, level_more, level_whole, read_level}
use Rattle.text.specs.declared.level.Reading.{Reading}
use Rattle.text.specs.declared.level.Reading.TheVariants as reading

-- behind the tenth: the end
unfoldable pub level_end : Bool → ℕ → List ℕ → Option ℤ
level_end minus tenths [] = Some (signed minus tenths)
level_end minus tenths (b ∷ s) = None

-- what a text says that is read so far and goes on with s
unfoldable pub level_from : Reading → List ℕ → Option ℤ
level_from reading.Start s = read_level s
level_from reading.Sign s = level_whole true s
level_from (reading.Digit minus whole) s = level_more minus whole s
level_from (reading.Digits minus whole) s = level_point minus whole s
level_from (reading.Point minus whole) s = level_tenth minus whole s
level_from (reading.Tenth minus tenths) s = level_end minus tenths s

-- the number is as small as its digits are few
abbrev pub Small : Reading → Type 0
Small reading.Start = Unit {0}
Small reading.Sign = Unit {0}
Small (reading.Digit minus whole) = whole < 10
Small (reading.Digits minus whole) = whole < 100
Small (reading.Point minus whole) = whole < 100
Small (reading.Tenth minus tenths) = tenths < 1000

-- the same where a byte may have shown that no level begins so
unfoldable pub level_after : Option Reading → List ℕ → Option ℤ
level_after None s = None
level_after (Some r) s = level_from r s

abbrev pub SmallAfter : Option Reading → Type 0
SmallAfter None = Unit {0}
SmallAfter (Some r) = Small r

-- where `from` tells what the bytes left say, the byte b leads to r: what r tells of the bytes after b is the same, and its number is small
pub data ReadOn (from : List ℕ → Option ℤ) (b : ℕ) (r : Option Reading) : Type 0 where
  on : SmallAfter r → ((s : List ℕ) → from (b ∷ s) ≡ level_after r s) → ReadOn from b r
