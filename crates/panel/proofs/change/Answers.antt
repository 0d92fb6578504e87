-- `change`: 1 and 2, and else by the row that is found.
use borrow.Author.Rules.{rules}
use Rattle.panel.specs.Panel.Calling.{calling}
use Rattle.panel.proofs.change.Goals as goal

pub change_found-requires : goal.change_found-requires
change_found-requires c = search (calling, c.in_ok-check.ensures, c.in_ok-check_values.ensures, rules)
