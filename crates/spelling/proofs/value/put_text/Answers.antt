-- `put_text`: a text for each kind.
use borrow.Author.Rules.{rules}
use Rattle.spelling.specs.Text.Writing.{text_writing}
use Rattle.spelling.proofs.value.put_text.Goals as goal

pub put_level-requires : goal.put_level-requires
put_level-requires c = search (text_writing, rules)

pub put_switch-requires : goal.put_switch-requires
put_switch-requires c = search (text_writing, rules)

pub put_number-requires : goal.put_number-requires
put_number-requires c = search (text_writing, rules)

pub put_word-requires : goal.put_word-requires
put_word-requires c = search (text_writing, rules)

pub returns-in-Level : goal.returns-in-Level
returns-in-Level c = search (text_writing, rules)

pub returns-in-Switch : goal.returns-in-Switch
returns-in-Switch c = search (text_writing, rules)

pub returns-in-Number : goal.returns-in-Number
returns-in-Number c = search (text_writing, rules)

pub returns-in-Word : goal.returns-in-Word
returns-in-Word c = search (text_writing, rules)
