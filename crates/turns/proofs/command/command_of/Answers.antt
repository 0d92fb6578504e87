-- `command_of`: by the length, and then by the letter.
use Rattle.std.proofs.Common.{rules}
use Rattle.turns.specs.Command.Reading.{reading}
use Rattle.turns.proofs.command.command_of.Goals as goal

pub returns-then-bytes-eq2 : goal.returns-then-bytes-eq2
returns-then-bytes-eq2 c = search (reading, rules)

pub returns-then-bytes-lt33 : goal.returns-then-bytes-lt33
returns-then-bytes-lt33 c = search (reading, rules)

pub returns-then-bytes-ne116 : goal.returns-then-bytes-ne116
returns-then-bytes-ne116 c = search (reading, rules)

pub returns : goal.returns
returns c = search (reading, rules)
