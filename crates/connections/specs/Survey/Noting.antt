-- Rules for noting one connection.
use Rattle.std.specs.Prelude.{◌≡◌, refl, Bool, true, ◌&&◌, List, ℕ, ◌≤◌, leb, length, set}
use Rattle.std.proofs.Common.{sym, arith}
use Rattle.std.proofs.Math.Seq.{set_out}
use Rattle.syntax.specs.Shape.{line_limit}
use Rattle.connections.specs.Survey.{noted}
use Rattle.connections.specs.Turn.{claims_few}
use Rattle.connections.specs.declared.connection.Connection.{Connection}
use Rattle.connections.specs.declared.survey.Survey.{Survey}

pub few_more : (b : Bool) (claims : ℕ) → b ≡ true → leb claims 64 ≡ (b && leb claims line_limit)
unfolding line_limit
few_more b claims h = rw h refl

pub noted-by : (s : Survey) (i : ℕ) (c : Connection) (n : ℕ) (b : Bool) (flags : List Bool) → b ≡ (s.few && leb n line_limit) → n ≡ c.port.len → flags ≡ set s.flags i c.is_open
    → ◌≡◌ {A = Survey} (record { few = b; flags = flags }) (noted s i c)
unfolding claims_few
noted-by s i c n b flags e h f = rw (e, h, f) refl

-- a flag that has no place
pub no_place : (flags : List Bool) (i : ℕ) (b : Bool) → length flags ≡ 32 → 32 ≤ i → flags ≡ set flags i b
no_place flags i b e h = sym (set_out flags i b (omega arith))

pub ruleset noting = (few_more, noted-by, no_place)
