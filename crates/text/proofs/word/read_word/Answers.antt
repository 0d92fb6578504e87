use borrow.Author.Rules.{rules}
use Rattle.text.specs.Word.Reading.{hex_passing}
use Rattle.text.proofs.word.read_word.Goals as goal

pub loop-b-preserved : goal.loop-b-preserved
loop-b-preserved c = search (hex_passing, rules)
