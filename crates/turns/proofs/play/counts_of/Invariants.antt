-- `counts_of`: count after count.
use Rattle.turns.specs.Play.Counting.{Counted}
use Rattle.turns.proofs.play.counts_of.Given as goal

abbrev pub invariant-loop-i : goal.invariant-loop-i
invariant-loop-i l = Counted l.bytes l.i l.counts
