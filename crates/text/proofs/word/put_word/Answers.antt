use borrow.Author.Rules.{rules}
use Rattle.text.specs.Word.Writing.{word_writing}
use Rattle.text.proofs.word.put_word.Goals as goal

pub loop-i-preserved : goal.loop-i-preserved
loop-i-preserved c = search (word_writing, rules)
