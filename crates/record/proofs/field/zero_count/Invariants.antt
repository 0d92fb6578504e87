-- So many of the bytes passed are zero.
use Rattle.record.specs.Field.Tally.{Tallied}
use Rattle.record.proofs.field.zero_count.Given as goal

abbrev pub invariant-loop-b : goal.invariant-loop-b
invariant-loop-b l = Tallied l.field l.count l.b-index
