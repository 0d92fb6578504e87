-- `turn`: the row is looked over and the next that waits is picked, so the turn at that place is the turn; a row of another length is refused.
use Rattle.std.proofs.Common.{◌≡◌, ◌∙◌, ap, arith}
use Rattle.values.specs.Room.{room_of}
use Rattle.connections.specs.Survey.{nothing_noted, surveyed_from}
use Rattle.connections.specs.Turn.{asked}
use Rattle.connections.proofs.Laws.Turn.Picking.{picked-below}
use Rattle.connections.proofs.Laws.Turn.Whole.{turn-lent, turn-misfit}
use Rattle.connections.specs.declared.survey.Survey.{Survey}
use Rattle.connections.proofs.turn.turn.Goals as goal

pub turn_at-requires : goal.turn_at-requires
turn_at-requires c = omega (arith, picked-below c.look_over-survey.result.flags c.args.counts.now c.args.last, c.pick-at.ensures)

pub returns-then-row-eq32 : goal.returns-then-row-eq32
returns-then-row-eq32 c =
    let survey : c.look_over-survey.result ≡ surveyed_from 0 c.args.row.now nothing_noted =
    c.look_over-survey.ensures ∙ ap (λ (s : Survey). surveyed_from 0 c.args.row.now s) c.nothing_noted.ensures in
    turn-lent (room_of c.args.table.now) (asked c.args.row.now c.args.last c.args.counts.now c.args.given.now c.args.values.now c.args.reply.now)
    c.look_over-survey.result c.pick-at.result c.turn_at.result c.turn_at.new.row c.turn_at.new.values c.turn_at.new.reply
    c.if-row-eq32.true survey c.pick-at.ensures c.turn_at.ensures

pub returns-else-row-eq32 : goal.returns-else-row-eq32
returns-else-row-eq32 c =
    turn-misfit (room_of c.args.table.now) (asked c.args.row.now c.args.last c.args.counts.now c.args.given.now c.args.values.now c.args.reply.now)
    c.idle.result c.if-row-eq32.false c.idle.ensures
