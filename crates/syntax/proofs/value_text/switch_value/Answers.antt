-- `switch_value`: each letter has its value.
use borrow.Author.Rules.{rules}
use Rattle.syntax.specs.Value.Reading.{switch-rules}
use Rattle.syntax.proofs.value_text.switch_value.Goals as goal

pub returns-in_err-read_switch : goal.returns-in_err-read_switch
returns-in_err-read_switch c = search (switch-rules, rules)

pub returns-in-On : goal.returns-in-On
returns-in-On c = search (switch-rules, rules)

pub returns-in-Off : goal.returns-in-Off
returns-in-Off c = search (switch-rules, rules)

pub returns-in-Turn : goal.returns-in-Turn
returns-in-Turn c = search (switch-rules, rules)
