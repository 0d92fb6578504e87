-- The bytes passed may stand in a label.
use Rattle.record.specs.Field.{label_byte}
use Rattle.record.specs.Field.Run.{Running}
use Rattle.record.proofs.field.label_run.Given as goal

abbrev pub invariant-loop-i : goal.invariant-loop-i
invariant-loop-i l = Running label_byte l.field l.i
