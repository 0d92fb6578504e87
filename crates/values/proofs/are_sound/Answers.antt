-- `are_sound`: the values of the records passed are permitted.
use Rattle.std.proofs.Common.{◌≡◌, ◌∙◌, true, rules, sym}
use Rattle.room.specs.Table.{sound}
use Rattle.room.specs.Table.Steps.{Step, past_end, step_known, step_of, stepping, walk_start_of, walk_step}
use Rattle.room.specs.Table.Walk.{Walk}
use Rattle.values.specs.Room.{room_of}
use Rattle.values.specs.Values.Fitting.{fit_before, fit_begun, fit_ended, fit_next, fit_short, fit_wrong, fitting, fitting_all}
use Rattle.values.proofs.are_sound.Goals as goal

pub loop-m-init-derived : goal.loop-m-init-derived
loop-m-init-derived c = search (stepping, rules)

pub loop-m-init : goal.loop-m-init
loop-m-init c =
    let it = c.into_iter-m-iterator.result in
    let e : it.table.now ≡ c.args.table.now = search rules in
    let n : it.number ≡ 0 = search rules in
    let p : it.place ≡ 0 = search rules in
    let f : it.first ≡ 0 = search rules in
    let sounds : sound c.args.table.now ≡ true = search rules in
    (walk_start_of _ _ _ _ _ sounds e n p f, tt, e, fit_begun (room_of c.args.table.now) c.args.values.now _ _ _ sounds n p f, sym f)

pub row_count-count-requires : goal.row_count-count-requires
row_count-count-requires c =
    let it = c.loop-m.m-iterator in
    let to = c.next.new.self in
    let s : Step c.args.table.now it.number it.place it.first c.in-Some.m to.number to.place to.first = step_of _ _ _ _ _ _ _ _ _ c.in-Some.ensures.steps.1 c.loop-m.invariant.2 in
    step_known _ _ _ _ _ _ _ _ s c.loop-m.invariant.3.counted.walk

pub overflow_sub-values : goal.overflow_sub-values
overflow_sub-values c =
    let it = c.loop-m.m-iterator in
    let to = c.next.new.self in
    let s : Step c.args.table.now it.number it.place it.first c.in-Some.m to.number to.place to.first = step_of _ _ _ _ _ _ _ _ _ c.in-Some.ensures.steps.1 c.loop-m.invariant.2 in
    fit_before (room_of c.args.table.now) _ _ _ _ _ _ _ _ s c.loop-m.invariant.3

pub returns-then-values-m : goal.returns-then-values-m
returns-then-values-m c =
    let it = c.loop-m.m-iterator in
    let to = c.next.new.self in
    let s : Step c.args.table.now it.number it.place it.first c.in-Some.m to.number to.place to.first = step_of _ _ _ _ _ _ _ _ _ c.in-Some.ensures.steps.1 c.loop-m.invariant.2 in
    let short = fit_short (room_of c.args.table.now) _ _ _ _ _ _ _ _ s c.loop-m.invariant.3 in
    search (short, rules)

pub module_fits-requires : goal.module_fits-requires
module_fits-requires c =
    let it = c.loop-m.m-iterator in
    let to = c.next.new.self in
    let s : Step c.args.table.now it.number it.place it.first c.in-Some.m to.number to.place to.first = step_of _ _ _ _ _ _ _ _ _ c.in-Some.ensures.steps.1 c.loop-m.invariant.2 in
    let known = step_known _ _ _ _ _ _ _ _ s c.loop-m.invariant.3.counted.walk in
    let before = fit_before (room_of c.args.table.now) _ _ _ _ _ _ _ _ s c.loop-m.invariant.3 in
    search (fitting, known, before, rules)

pub returns-then-not-module_fits : goal.returns-then-not-module_fits
returns-then-not-module_fits c =
    let it = c.loop-m.m-iterator in
    let to = c.next.new.self in
    let s : Step c.args.table.now it.number it.place it.first c.in-Some.m to.number to.place to.first = step_of _ _ _ _ _ _ _ _ _ c.in-Some.ensures.steps.1 c.loop-m.invariant.2 in
    let wrong = fit_wrong (room_of c.args.table.now) _ _ _ _ _ _ _ _ s c.loop-m.invariant.3 in
    search (fitting, wrong, rules)

pub loop-m-preserved : goal.loop-m-preserved
loop-m-preserved c =
    let it = c.loop-m.m-iterator in
    let to = c.next.new.self in
    let s : Step c.args.table.now it.number it.place it.first c.in-Some.m to.number to.place to.first = step_of _ _ _ _ _ _ _ _ _ c.in-Some.ensures.steps.1 c.loop-m.invariant.2 in
    let next = fit_next (room_of c.args.table.now) _ _ _ _ _ _ _ _ s c.loop-m.invariant.3 in
    let ended = fit_ended (room_of c.args.table.now) c.args.values.now _ _ _ _ _ _ _ s c.loop-m.invariant.3 in
    let same : to.table.now ≡ c.args.table.now = c.in-Some.ensures.steps.0 ∙ c.loop-m.invariant.2 in
    let walks : Walk to.table.now to.number to.place to.first = rw same (walk_step _ _ _ _ _ _ _ _ s c.loop-m.invariant.3.counted.walk) in
    (walks, tt, same, search (fitting, next, rules), search (ended, rules))

pub returns : goal.returns
returns c =
    let e = c.loop-m.invariant in
    let l = past_end _ _ _ c.in-None.ensures.steps.1.0 e.2 in
    rw e.4 (fitting_all (room_of c.args.table.now) _ _ _ _ e.3 l)
