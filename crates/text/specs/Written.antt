-- What a writer leaves: its text from a place of the buffer on, and every other byte as it was.
pub mod Laws
use Rattle.std.specs.Prelude.{◌≡◌, List, ℕ, ◌+◌, length}
use Rattle.std.proofs.lemmas.List.Edits.{sets}

-- `text` was written into `buffer` from `at` on; the answer is the place behind it
pub data Wrote (buffer : List ℕ) (at : ℕ) (text : List ℕ) (answer : ℕ) (after : List ℕ) : Type 0 where
  wrote : (past : answer ≡ at + length text) → (bytes : after ≡ sets buffer at text) → Wrote buffer at text answer after
