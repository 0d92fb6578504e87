-- `switch`: where the place is one, the connection that is taken out is the row's own; put back, it is the row that the promise names.
use Rattle.std.proofs.Common.{arith, get_or, subst}
use Rattle.std.proofs.lemmas.List.{get_or_default}
use Rattle.connections.specs.Connections.{closed, SwitchesOne}
use Rattle.connections.specs.Connections.Switching.{no_place, place-within, place_small, switched_at}
use Rattle.connections.specs.declared.connection.Connection.{Connection}
use Rattle.connections.proofs.connection.switch.Goals as goal

pub offset_bounds-row-number : goal.offset_bounds-row-number
offset_bounds-row-number c =
    record { fits = omega (arith, place_small c.args.want c.is_place.result c.args.row.now c.args.number c.is_place.ensures c.if-is_place.true) }

pub slice_copy_out-connection : goal.slice_copy_out-connection
slice_copy_out-connection c = place-within c.args.want c.is_place.result c.args.row.now c.args.number c.is_place.ensures c.if-is_place.true

pub offset_bounds-row-number-then-is_place : goal.offset_bounds-row-number-then-is_place
offset_bounds-row-number-then-is_place c =
    record { fits = omega (arith, place_small c.args.want c.is_place.result c.args.row.now c.args.number c.is_place.ensures c.if-is_place.true) }

pub bounds-row-number : goal.bounds-row-number
bounds-row-number c = place-within c.args.want c.is_place.result c.args.row.now c.args.number c.is_place.ensures c.if-is_place.true

pub returns-then-is_place : goal.returns-then-is_place
returns-then-is_place c =
    let inside = place-within c.args.want c.is_place.result c.args.row.now c.args.number c.is_place.ensures c.if-is_place.true in
    let done : SwitchesOne c.args.want (get_or c.args.row.now c.args.number closed) c.switch_one-done.result =
    subst (λ (x : Connection). SwitchesOne c.args.want x c.switch_one-done.result) (get_or_default c.args.row.now c.args.number _ closed inside) c.switch_one-done.ensures in
    switched_at c.args.want c.is_place.result c.args.row.now c.args.number c.is_place.ensures c.switch_one-done.result c.if-is_place.true done

pub returns : goal.returns
returns c = no_place c.args.want c.is_place.result c.args.row.now c.args.number c.is_place.ensures c.if-is_place.false
