-- `play_all`: the buffer for a command has room for the longest.
use Rattle.turns.specs.Input.Reading.{Goes}
use Rattle.turns.proofs.input.play_all.Given as goal

abbrev pub invariant-loop-commands : goal.invariant-loop-commands
invariant-loop-commands g l = Goes l.initial.values l.initial.input l.initial.reply l.values l.input l.reply
