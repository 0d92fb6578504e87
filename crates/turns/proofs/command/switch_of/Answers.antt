-- `switch_of`: by the letter.
use Rattle.std.proofs.Common.{rules}
use Rattle.turns.specs.Command.Reading.{switching}
use Rattle.turns.proofs.command.switch_of.Goals as goal

pub returns-in-111 : goal.returns-in-111
returns-in-111 c = search (switching, rules)

pub returns-in-99 : goal.returns-in-99
returns-in-99 c = search (switching, rules)

pub returns-in_default : goal.returns-in_default
returns-in_default c = search (switching, rules)
