-- `word_value`: the word is read, or wrong.
use borrow.Author.Rules.{rules}
use Rattle.syntax.specs.Value.Reading.{word-rules}
use Rattle.syntax.proofs.value_text.word_value.Goals as goal

pub returns-in_err-read_word : goal.returns-in_err-read_word
returns-in_err-read_word c = search (word-rules, rules)

pub overflow_cast-result : goal.overflow_cast-result
overflow_cast-result c = search (word-rules, rules)

pub returns : goal.returns
returns c = search (word-rules, rules)
