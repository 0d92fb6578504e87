-- `play_file`: a tally has no more lines than bytes.
use Rattle.std.proofs.Common.{rules}
use Rattle.worked.specs.Script.Laws.{tally-few}
use Rattle.worked.proofs.play_file.Goals as goal

pub say_tally-requires : goal.say_tally-requires
say_tally-requires g c = search (tally-few, rules)
