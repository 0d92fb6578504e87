-- The bytes passed are read as far as the state says, and what is left decides.
use Rattle.text.specs.Level.Passed.{Passed}
use Rattle.text.proofs.level.read_level.Given as goal

abbrev pub invariant-loop-b : goal.invariant-loop-b
invariant-loop-b l = Passed l.s l.reading l.b-index
