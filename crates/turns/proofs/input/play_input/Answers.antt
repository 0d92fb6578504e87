-- `play_input`: there is room for the start values of a sound table.
use Rattle.std.proofs.Common.{rules}
use Rattle.values.specs.Starts.Right.{started}
use Rattle.turns.proofs.input.play_input.Goals as goal

pub fill_starts-count-requires : goal.fill_starts-count-requires
fill_starts-count-requires g c = search (started, rules)
