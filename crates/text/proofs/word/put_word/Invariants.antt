-- The digits passed are written.
use Rattle.text.specs.Word.{hex_text}
use Rattle.text.specs.Written.Laws.{Copied}
use Rattle.text.proofs.word.put_word.Given as goal

abbrev pub invariant-loop-i : goal.invariant-loop-i
invariant-loop-i l = Copied l.fn.buffer l.fn.at (hex_text l.fn.word) l.i l.buffer
