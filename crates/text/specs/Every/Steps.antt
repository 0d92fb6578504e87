-- A test of a list from one place to the next.
use Rattle.std.specs.Prelude.{◌≡◌, Bool, true, ◌&&◌, List, ℕ, suc, ◌+◌, ◌≤◌, ◌<◌, length, get_or, drop}
use Rattle.std.proofs.Common.{add-one, drop_of_length-le, drop-cons}
use Rattle.text.specs.Every.{every}
use Rattle.text.specs.Every.Laws.{every-cons, every-nil}

module _ {A : Type 0} (test : A → Bool) where
  -- those from a place on: the one there, and those behind it
  pub every-from : (l : List A) (d : A) (i : ℕ) → i < length l → every test (drop i l) ≡ (test (get_or l i d) && every test (drop (i + 1) l))
  every-from l d i h = rw (drop-cons l i d h, every-cons test (get_or l i d) (drop (suc i) l), add-one)

  -- past the end there is none
  pub every-past : (l : List A) (i : ℕ) → length l ≤ i → every test (drop i l) ≡ true
  every-past l i h = rw (drop_of_length-le l h) (every-nil test)
