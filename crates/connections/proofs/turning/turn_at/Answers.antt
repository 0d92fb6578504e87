-- `turn_at`: the connection that is taken out is the row's own, which the promise reads with a closed one past the end.
use Rattle.std.proofs.Common.{refl, get_or, subst}
use Rattle.std.proofs.lemmas.List.{get_or_default}
use Rattle.values.specs.Room.{room_of}
use Rattle.connections.specs.Connections.{closed}
use Rattle.connections.specs.Turn.Single.{TurnsOne, turns_at}
use Rattle.connections.specs.declared.connection.Connection.{Connection}
use Rattle.connections.proofs.turning.turn_at.Goals as goal

pub returns : goal.returns
returns c =
    let done = c.turn_one-done in
    let made : TurnsOne (room_of c.args.table.now) c.args.survey c.args.last c.args.counts.now c.args.given.now c.args.values.now c.args.reply.now
    (get_or c.args.row.now c.args.number closed) done.result done.new.values done.new.reply =
    subst (λ (x : Connection). TurnsOne (room_of c.args.table.now) c.args.survey c.args.last c.args.counts.now c.args.given.now c.args.values.now c.args.reply.now x done.result done.new.values done.new.reply)
    (get_or_default c.args.row.now c.args.number _ closed c.requires) done.ensures in
    turns_at done.result made refl refl
