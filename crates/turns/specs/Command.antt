-- What the bytes of a command say.
pub mod Reading
use Rattle.std.specs.Prelude.{Bool, true, false, cond, ◌&&◌, List, ℕ, eqb, leb, length, get_or, Some, None}
use Rattle.std.specs.declared.option.Option.{Option}
use Rattle.turns.specs.declared.command.Command.{Command}
use Rattle.turns.specs.declared.command.Command.TheVariants.{Switch, Turn}

-- two bytes: 111, `o`, opens the connection of that number, 99, `c`, closes it
unfoldable pub switch_of : (letter i : ℕ) → Option Command
switch_of letter i = cond (eqb letter 111) (Some (Switch true i)) (cond (eqb letter 99) (Some (Switch false i)) None)

-- 33 bytes or more: 116, `t`, begins a turn
unfoldable pub command_of : List ℕ → Option Command
command_of bs =
    cond (eqb (length bs) 2) (switch_of (get_or bs 0 0) (get_or bs 1 0)) (cond (leb 33 (length bs) && eqb (get_or bs 0 0) 116) (Some Turn) None)
