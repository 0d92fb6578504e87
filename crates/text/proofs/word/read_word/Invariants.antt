-- The bytes passed are hex digits, and say the number so far.
use Rattle.text.specs.Word.Reading.{HexPassed}
use Rattle.text.proofs.word.read_word.Given as goal

abbrev pub invariant-loop-b : goal.invariant-loop-b
invariant-loop-b l = HexPassed l.s l.n l.b-index
