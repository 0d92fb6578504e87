-- What is noted of the connections of a row, one after the other: which are open, and whether each port claims at most 64 bytes.
pub mod Laws
pub mod Noting
use Rattle.std.specs.Prelude.{Bool, true, false, ◌&&◌, List, [], ◌∷◌, ℕ, ◌+◌, replicate, set}
use Rattle.connections.specs.Turn.{claims_few}
use Rattle.connections.specs.declared.connection.Connection.{Connection}
use Rattle.connections.specs.declared.survey.Survey.{Survey}

abbrev pub nothing_noted : Survey
nothing_noted = record { few = true; flags = replicate 32 false }

-- connection i is noted
abbrev pub noted : Survey → (i : ℕ) → Connection → Survey
noted s i c = record { few = s.few && claims_few c; flags = set s.flags i c.is_open }

-- so is each of a row's rest, which begins with connection i
abbrev pub surveyed_from : (i : ℕ) → List Connection → Survey → Survey
surveyed_from i [] s = s
surveyed_from i (c ∷ cs) s = surveyed_from (i + 1) cs (noted s i c)
