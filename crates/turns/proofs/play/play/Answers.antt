-- `play`: by the command.
use Rattle.std.proofs.Common.{rules}
use Rattle.turns.specs.Play.Playing.{playing}
use Rattle.turns.proofs.play.play.Goals as goal

pub slice_bounds-counts_of-end : goal.slice_bounds-counts_of-end
slice_bounds-counts_of-end c = search (playing, rules)

pub slice_bounds-turn_of-count : goal.slice_bounds-turn_of-count
slice_bounds-turn_of-count c = search (playing, rules)

pub slice_bounds-turn_of-start : goal.slice_bounds-turn_of-start
slice_bounds-turn_of-start c = search (playing, rules)

pub returns-in_default : goal.returns-in_default
returns-in_default c = search (playing, rules)

pub returns-in-Switch : goal.returns-in-Switch
returns-in-Switch c = search (playing, rules)

pub returns-in-Turn : goal.returns-in-Turn
returns-in-Turn c = search (playing, rules)
