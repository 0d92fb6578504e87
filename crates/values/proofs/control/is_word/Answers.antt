-- `is_word`: a word, or another kind.
use Rattle.std.proofs.Common.{rules}
use Rattle.values.specs.Control.Seeking.{word-rules}
use Rattle.values.proofs.control.is_word.Goals as goal

pub returns-in-Word : goal.returns-in-Word
returns-in-Word c = search (word-rules, rules)

pub returns-in_default : goal.returns-in_default
returns-in_default c = search (word-rules, rules)
