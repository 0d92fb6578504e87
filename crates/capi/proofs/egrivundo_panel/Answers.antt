-- `egrivundo_panel`: the change, and its count told.
use borrow.Author.Rules.{rules}
use Rattle.capi.specs.Panel.{panel_tells, panel_answer}
use Rattle.capi.specs.Panel.Telling.{panel-told}
use Rattle.capi.proofs.egrivundo_panel.Goals as goal

pub returns : goal.returns
unfolding panel_tells panel_answer
returns c = rw (c.number_of.ensures, c.unwrap_or.ensures) (search (panel-told, rules))
