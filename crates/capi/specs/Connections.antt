-- Thirty-two connections for C: 2,144 lent bytes, 67 for each connection, one connection after the other. Opening and closing.
pub mod Laws
pub mod Places
pub mod Storing
pub mod Survey
use Rattle.std.specs.Prelude.{Bool, cond, not, List, [], ◌∷◌, ℕ, zero, suc, ◌*◌, eqb, length, get_or, take, drop}
use Rattle.std.proofs.lemmas.List.Edits.{sets}
use Rattle.connections.specs.Connections.{switch_number}
use Rattle.connections.specs.declared.connection.Connection.{Connection}
use Rattle.capi.specs.Port.{port_of}

-- the connection that 67 bytes say: open (0 no, any other byte yes), and the 66 bytes of its port
unfoldable pub connection_of : List ℕ → Connection
connection_of l = record { is_open = not (eqb (get_or l 0 0) 0); port = port_of (drop 1 l) }

-- so many connections, one after the other
unfoldable pub connections_of : (count : ℕ) → List ℕ → List Connection
connections_of zero l = []
connections_of (suc count) l = connection_of (take 67 l) ∷ connections_of count (drop 67 l)

-- the row that the bytes say. Any number of bytes but 2,144 says a row of no connection, which every call refuses with 10
unfoldable pub row_of : List ℕ → List Connection
row_of l = cond (eqb (length l) 2144) (connections_of 32 l) []

-- the number, and what the call leaves in the row's bytes
pub record SwitchAnswer : Type 0 where
  pub number : ℕ
  pub row : List ℕ

unfoldable pub switch_tells : (number : ℕ) → (row : List ℕ) → SwitchAnswer
switch_tells number row = record { number = number; row = row }

-- three bytes of connection i are stored: 1 open or 0 closed, no held bytes, no overrun. All others stay
unfoldable pub anew : (want : Bool) → (row : List ℕ) → (i : ℕ) → List ℕ
anew want row i = sets row (67 * i) (cond want 1 0 ∷ 0 ∷ 0 ∷ [])

-- by the number: a refusal leaves every byte
unfoldable pub switch_by : (want : Bool) → (row : List ℕ) → (i number : ℕ) → SwitchAnswer
switch_by want row i zero = switch_tells 0 (anew want row i)
switch_by want row i (suc n) = switch_tells (suc n) row

-- the whole call: opening, where want is true, or closing
unfoldable pub switch_answer : (want : Bool) → (row : List ℕ) → (i : ℕ) → SwitchAnswer
switch_answer want row i = switch_by want row i (switch_number want (row_of row) i)
