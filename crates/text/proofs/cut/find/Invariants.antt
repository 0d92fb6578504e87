-- The bytes passed are not the one sought.
use Rattle.text.specs.Cut.Laws.{Searched}
use Rattle.text.proofs.cut.find.Given as goal

abbrev pub invariant-loop-i : goal.invariant-loop-i
invariant-loop-i l = Searched l.b l.s l.i
