-- Rules for the code that starts the program: a table that was tested, and the start values over it.
use Rattle.std.specs.Prelude.{◌≡◌, List, ℕ, ◌*◌, ◌≤◌, length}
use Rattle.std.proofs.Common.{arith}
use Rattle.values.specs.Starts.Right.{started}
use Rattle.serial_port.specs.declared.port.Port.{Port}
use Rattle.text.specs.Cut.Part.{part-counts}
use Rattle.text.specs.Every.Laws.{test_held}

pub ruleset table_rules = (test_held, part-counts)

-- a fresh port claims few bytes
pub fresh-few : (p : Port) → p.len ≡ 0 → p.len ≤ 64
fresh-few p e = omega arith

-- for each byte of a read there is room for a reply
pub replies-fit : (input out : List ℕ) → 1024 ≡ length input → 65536 ≡ length out → 64 * length input ≤ length out
replies-fit input out i o = omega arith

pub ruleset start-rules = (started, part-counts, fresh-few, replies-fit)
