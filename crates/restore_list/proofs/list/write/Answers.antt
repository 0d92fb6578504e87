-- `write`: the lines of the records passed were written.
use Rattle.std.proofs.Common.{◌≡◌, ◌∙◌, true, rules}
use Rattle.room.specs.Table.{sound}
use Rattle.room.specs.Table.Steps.{Step, past_end, step_of, stepping, walk_start_of, walk_step}
use Rattle.room.specs.Table.Walk.{Walk}
use Rattle.restore_list.specs.Writing.Whole.{put_next, put_room, put_standing, puts-all, puts-begun, putting}
use Rattle.restore_list.proofs.list.write.Goals as goal

pub modules_of-m-items-requires : goal.modules_of-m-items-requires
modules_of-m-items-requires c = search (putting, rules)

pub loop-m-init-derived : goal.loop-m-init-derived
loop-m-init-derived c = search (putting, stepping, rules)

pub loop-m-init : goal.loop-m-init
loop-m-init c =
    let it = c.into_iter-m-iterator.result in
    let e : it.table.now ≡ c.args.table.now = search rules in
    let n : it.number ≡ 0 = search rules in
    let p : it.place ≡ 0 = search rules in
    let f : it.first ≡ 0 = search rules in
    let sounds : sound c.args.table.now ≡ true = search rules in
    (walk_start_of _ _ _ _ _ sounds e n p f, tt, e, puts-begun _ _ _ _ _ _ _ _ c.requires.rows_value c.requires.wanted_in_bounds n p f)

pub write_module-at-requires : goal.write_module-at-requires
write_module-at-requires c =
    let it = c.loop-m.m-iterator in
    let to = c.next.new.self in
    let s : Step c.args.table.now it.number it.place it.first c.in-Some.m to.number to.place to.first = step_of _ _ _ _ _ _ _ _ _ c.in-Some.ensures.steps.1 c.loop-m.invariant.2 in
    let stands = put_standing _ _ _ _ _ _ _ _ _ _ _ _ _ _ s c.loop-m.invariant.3 in
    let room = put_room _ _ _ _ _ _ _ _ _ _ _ _ _ _ s c.loop-m.invariant.3 in
    search (stands, room, rules)

pub loop-m-preserved : goal.loop-m-preserved
loop-m-preserved c =
    let it = c.loop-m.m-iterator in
    let to = c.next.new.self in
    let s : Step c.args.table.now it.number it.place it.first c.in-Some.m to.number to.place to.first = step_of _ _ _ _ _ _ _ _ _ c.in-Some.ensures.steps.1 c.loop-m.invariant.2 in
    let next = put_next _ _ _ _ _ _ _ _ _ _ _ _ _ _ s c.loop-m.invariant.3 in
    let same : to.table.now ≡ c.args.table.now = c.in-Some.ensures.steps.0 ∙ c.loop-m.invariant.2 in
    let walks : Walk to.table.now to.number to.place to.first = rw same (walk_step _ _ _ _ _ _ _ _ s c.loop-m.invariant.3.walk) in
    (walks, tt, same, search (next, rules))

pub returns : goal.returns
returns c =
    let e = c.loop-m.invariant in
    puts-all _ _ _ _ _ _ _ _ _ _ e.3 (past_end _ _ _ c.in-None.ensures.steps.1.0 e.2)
