-- `egrivundo_restore_write`: the writing call, and its counts told.
use borrow.Author.Rules.{rules}
use Rattle.capi.specs.Restore.Telling.{restore-told}
use Rattle.capi.proofs.egrivundo_restore_write.Goals as goal

pub returns : goal.returns
returns c = rw (c.number_of.ensures, c.size_told.ensures) (search (restore-told, rules))
