-- `egrivundo_turn`: by who was served.
use borrow.Author.Rules.{rules}
use Rattle.capi.specs.Turn.Turning.{turning}
use Rattle.capi.proofs.turn.egrivundo_turn.Goals as goal

pub store_served-requires : goal.store_served-requires
store_served-requires c = search (turning, rules)

pub returns-in-None : goal.returns-in-None
returns-in-None c = search (turning, rules)

pub returns-in-Some : goal.returns-in-Some
returns-in-Some c = search (turning, rules)
