-- Number texts: one or more decimal digits, up to a given width, leading zeros allowed.
pub mod Bytes
pub mod Examples
pub mod Laws
pub mod Passed
use Rattle.std.specs.Prelude.{Bool, cond, ◌&&◌, List, ℕ, leb, length, Option, Some, None}
use Rattle.text.specs.Digits.{all_digits, number_of}

-- one to `width` decimal digits
unfoldable pub number_form : ℕ → List ℕ → Bool
number_form width s = leb 1 (length s) && leb (length s) width && all_digits s

-- what a number text of at most `width` digits says
unfoldable pub read_number : ℕ → List ℕ → Option ℕ
read_number width s = cond (number_form width s) (Some (number_of s)) None
