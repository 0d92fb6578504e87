-- `egrivundo_restore_size`: the size call, and its counts told.
use borrow.Author.Rules.{rules}
use Rattle.capi.specs.Restore.Telling.{size_told_lem}
use Rattle.capi.proofs.egrivundo_restore_size.Goals as goal

pub returns : goal.returns
returns c = rw (c.number_of.ensures, c.size_told.ensures) (search (size_told_lem, rules))
