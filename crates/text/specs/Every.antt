-- A test that each element of a list passes, and one that each pair passes: computed over the whole list at once.
pub mod Laws
pub mod Steps
use Rattle.std.specs.Prelude.{Bool, true, ◌&&◌, List, [], ◌∷◌}

module _ {A : Type 0} where
  -- each element passes the test
  unfoldable pub every : (A → Bool) → List A → Bool
  every test [] = true
  every test (a ∷ l) = test a && every test l

  -- each pair of two places passes the test
  unfoldable pub pairs : (A → A → Bool) → List A → Bool
  pairs test [] = true
  pairs test (a ∷ l) = every (test a) l && pairs test l
