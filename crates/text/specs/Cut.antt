-- Cutting a byte sequence: at the first of a given byte, and from one place up to another.
pub mod First
pub mod Found
pub mod From
pub mod Lacking
pub mod Laws
pub mod Part
use Rattle.std.specs.Prelude.{Bool, cond, List, [], ◌∷◌, ℕ, suc, ◌+◌, ◌-◌, eqb, ltb, length, take, drop}

-- the place of the first b, the length where there is none
unfoldable pub index_of : ℕ → List ℕ → ℕ
index_of b [] = 0
index_of b (x ∷ s) = cond (eqb x b) 0 (suc (index_of b s))

-- there is a b
unfoldable pub has : ℕ → List ℕ → Bool
has b s = ltb (index_of b s) (length s)

-- what stands before the first b: all, where there is none
unfoldable pub before : ℕ → List ℕ → List ℕ
before b s = take (index_of b s) s

-- what stands after the first b: nothing, where there is none
unfoldable pub after : ℕ → List ℕ → List ℕ
after b s = drop (suc (index_of b s)) s

-- where the first b from place `from` on stands; where there is none, the length, or `from` where that lies past it
unfoldable pub first_from : ℕ → ℕ → List ℕ → ℕ
first_from b from s = from + index_of b (drop from s)

-- the bytes from place a up to place e
unfoldable pub part : List ℕ → ℕ → ℕ → List ℕ
part s a e = take (e - a) (drop a s)
