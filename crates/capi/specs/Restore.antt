-- The restore calls for C: two numbers are lent for what each counts.
pub mod Laws
pub mod Telling
use Rattle.std.specs.Prelude.{List, [], ◌∷◌, ℕ}
use Rattle.wish.specs.Listing.{Size, Told, restore, size}
use Rattle.wish.specs.Target.{Wish}

-- the number, and what the size call leaves in the counts
pub record SizeAnswer : Type 0 where
  pub number : ℕ
  pub told : List ℕ

unfoldable pub size_tells : (number : ℕ) → (told : List ℕ) → SizeAnswer
size_tells number told = record { number = number; told = told }

-- the two counts: bytes and lines
unfoldable pub size_counted : Size → SizeAnswer
size_counted s = size_tells s.number (s.bytes ∷ s.lines ∷ [])

-- the whole size call; a refusal counts zero
unfoldable pub size_answer : Wish → SizeAnswer
size_answer w = size_counted (size w)

-- the number, and what the writing call leaves in the counts and in the list buffer
pub record RestoreAnswer : Type 0 where
  pub number : ℕ
  pub told : List ℕ
  pub list : List ℕ

unfoldable pub restore_tells : (number : ℕ) → (told list : List ℕ) → RestoreAnswer
restore_tells number told list = record { number = number; told = told; list = list }

-- the same two counts
unfoldable pub counted : Told → RestoreAnswer
counted a = restore_tells a.number (a.bytes ∷ a.lines ∷ []) a.buffer

-- the whole writing call; a refusal counts zero and changes nothing else
unfoldable pub restore_answer : Wish → (list : List ℕ) → RestoreAnswer
restore_answer w list = counted (restore w list)
