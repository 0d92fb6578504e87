-- The bytes that wait: those of all connections lie end to end in one buffer, by rising number, and 32 counts tell how many are whose.
pub mod Adding
pub mod Laws
use Rattle.std.specs.Prelude.{Bool, ◌&&◌, List, [], ◌∷◌, ℕ, ◌+◌, eqb, length, get_or, take, drop}

-- how many connections there are
unfoldable pub connection_count : ℕ
connection_count = 32

-- the sum of the counts, which no word size limits
unfoldable pub total : List ℕ → ℕ
total [] = 0
total (n ∷ ns) = n + total ns

-- the counts divide a buffer of so many bytes: there are 32, and they add up to its length
unfoldable pub counts_right : List ℕ → (bytes : ℕ) → Bool
counts_right counts bytes = eqb (length counts) connection_count && eqb (total counts) bytes

-- where the bytes of connection i begin: behind those of all before it, also of closed ones
unfoldable pub part_start : List ℕ → (i : ℕ) → ℕ
part_start counts i = total (take i counts)

-- the waiting bytes of connection i: as many as its count tells, from there on
unfoldable pub waiting_of : List ℕ → (given : List ℕ) → (i : ℕ) → List ℕ
waiting_of counts given i = take (get_or counts i 0) (drop (part_start counts i) given)
