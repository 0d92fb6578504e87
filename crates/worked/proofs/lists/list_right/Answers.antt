-- `list_right`: what the restore call told, compared.
use borrow.Author.Rules.{rules}
use Rattle.worked.specs.Restored.Telling.{call-compared}
use Rattle.worked.proofs.lists.list_right.Goals as goal

pub returns : goal.returns
returns c = search (call-compared, rules)
