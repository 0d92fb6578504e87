-- What a port is to its user: the unfinished line, of up to 64 bytes, or that it has overrun.
pub mod Collecting
pub mod Gathering
pub mod Laws
pub mod Seen
use Rattle.std.specs.Prelude.{◌≡◌, Bool, true, false, cond, List, [], ◌++◌, ℕ, suc, ◌≤◌, leb, length, take}
use Rattle.text.specs.Cut.{has, index_of, before}
use Rattle.syntax.specs.Shape.{line_limit}
use Rattle.serial_port.specs.declared.port.Port.{Port}
use Rattle.serial_port.specs.declared.port.Gathered.{Gathered}

-- of an overrun port the held bytes do not count, and of no port what is stored past them
pub data View : Type 0 where
  held : List ℕ → View
  over : View

unfoldable pub view : Port → View
view p = cond p.overrun over (held (take p.len p.held))

-- the paper's equal ports: both overrun, with claims of 64 or less; or neither, with the same held bytes
pub data Same (p q : Port) : Type 0 where
  both_over : p.overrun ≡ true → q.overrun ≡ true → p.len ≤ line_limit → q.len ≤ line_limit → Same p q
  both_held : p.overrun ≡ false → q.overrun ≡ false → take p.len p.held ≡ take q.len q.held → Same p q

-- the fresh port holds nothing
unfoldable pub fresh : View
fresh = held []

-- how many bytes a port claims to hold; those of an overrun port are left open, and are taken for none
unfoldable pub claim : View → ℕ
claim (held l) = length l
claim over = 0

-- at most 64 bytes are held, with more the port has overrun
unfoldable pub fit : List ℕ → View
fit l = cond (leb (length l) line_limit) (held l) over

-- the longer held line
unfoldable pub join : View → List ℕ → View
join (held l) bs = fit (l ++ bs)
join over bs = over

-- what a call gathers of the given bytes, before any reply: the line that it holds then, how many bytes it consumes, and whether they finish the line
pub record Gather : Type 0 where
  pub line : View
  pub consumed : ℕ
  pub finished : Bool

-- it takes the bytes through the first 0D, or all where there is none; the 0D itself is not held
unfoldable pub gather : View → List ℕ → Gather
gather v bs =
    cond (has 0x0D bs)
    (record { line = join v (before 0x0D bs); consumed = suc (index_of 0x0D bs); finished = true })
    (record { line = join v bs; consumed = length bs; finished = false })

-- what the code gathers, with its port as it is seen
unfoldable pub gathered : Gathered → Gather
gathered g = record { line = view g.port; consumed = g.consumed; finished = g.finished }

-- the promise of gathering: what is gathered, in a port that claims at most 64 bytes. Left open, as for a call, are the held bytes of a port that has overrun, and
-- what is stored past the held bytes
pub data Gathers (p : Port) (bs : List ℕ) (g : Gathered) : Type 0 where
  gathers : (all : gathered g ≡ gather (view p) bs) → (few : g.port.len ≤ line_limit) → Gathers p bs g
