-- The bytes passed are digits, and say the number so far.
use Rattle.text.specs.Number.Passed.{Passed}
use Rattle.text.proofs.number.read_number.Given as goal

abbrev pub invariant-loop-b : goal.invariant-loop-b
invariant-loop-b l = Passed l.width l.s l.n l.b-index
