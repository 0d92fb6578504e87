-- The bytes passed are written.
use Rattle.text.specs.Written.Laws.{Copied}
use Rattle.text.proofs.written.put_bytes.Given as goal

abbrev pub invariant-loop-i : goal.invariant-loop-i
invariant-loop-i l = Copied l.fn.buffer l.at l.source l.i l.buffer
