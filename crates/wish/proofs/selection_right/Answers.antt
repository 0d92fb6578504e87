-- `selection_right`: each byte of the records passed is at most 1.
use Rattle.std.proofs.Common.{◌≡◌, ◌∙◌, true, rules, sym}
use Rattle.room.specs.Table.{sound}
use Rattle.room.specs.Table.Steps.{Step, past_end, step_of, stepping, walk_start_of}
use Rattle.room.specs.Table.Walk.{Walk}
use Rattle.wish.specs.Target.Selecting.{selecting_all, selecting_begun, select_counted, select_fits, select_next, select_short, select_wrong}
use Rattle.wish.proofs.selection_right.Goals as goal

pub loop-m-init-derived : goal.loop-m-init-derived
loop-m-init-derived c = search (stepping, rules)

pub loop-m-init : goal.loop-m-init
loop-m-init c =
    let it = c.into_iter-m-iterator.result in
    let e : it.table.now ≡ c.args.table.now = search rules in
    let n : it.number ≡ 0 = search rules in
    let p : it.place ≡ 0 = search rules in
    let f : it.first ≡ 0 = search rules in
    let sounds : sound c.args.table.now ≡ true = search rules in
    (walk_start_of _ _ _ _ _ sounds e n p f, tt, e, selecting_begun c.args.table.now c.args.selection.now _ _ sounds n p, sym n)

pub returns-then-selection-m : goal.returns-then-selection-m
returns-then-selection-m c =
    let it = c.loop-m.m-iterator in
    let to = c.next.new.self in
    let s : Step c.args.table.now it.number it.place it.first c.in-Some.m to.number to.place to.first = step_of _ _ _ _ _ _ _ _ _ c.in-Some.ensures.steps.1 c.loop-m.invariant.2 in
    let short = select_short c.args.table.now c.args.selection.now _ _ _ _ _ _ _ s c.loop-m.invariant.3 in
    search (short, rules)

pub returns-then-selection-m-gt1 : goal.returns-then-selection-m-gt1
returns-then-selection-m-gt1 c =
    let it = c.loop-m.m-iterator in
    let to = c.next.new.self in
    let s : Step c.args.table.now it.number it.place it.first c.in-Some.m to.number to.place to.first = step_of _ _ _ _ _ _ _ _ _ c.in-Some.ensures.steps.1 c.loop-m.invariant.2 in
    let wrong = select_wrong c.args.table.now c.args.selection.now _ _ _ _ _ _ _ s c.loop-m.invariant.3 in
    search (wrong, rules)

pub overflow_add-count : goal.overflow_add-count
overflow_add-count c =
    let it = c.loop-m.m-iterator in
    let to = c.next.new.self in
    let s : Step c.args.table.now it.number it.place it.first c.in-Some.m to.number to.place to.first = step_of _ _ _ _ _ _ _ _ _ c.in-Some.ensures.steps.1 c.loop-m.invariant.2 in
    select_fits c.args.table.now c.args.selection.now _ _ _ _ _ _ _ s c.loop-m.invariant.3

pub loop-m-preserved : goal.loop-m-preserved
loop-m-preserved c =
    let it = c.loop-m.m-iterator in
    let to = c.next.new.self in
    let s : Step c.args.table.now it.number it.place it.first c.in-Some.m to.number to.place to.first = step_of _ _ _ _ _ _ _ _ _ c.in-Some.ensures.steps.1 c.loop-m.invariant.2 in
    let next = select_next c.args.table.now c.args.selection.now _ _ _ _ _ _ _ s c.loop-m.invariant.3 in
    let same : to.table.now ≡ c.args.table.now = c.in-Some.ensures.steps.0 ∙ c.loop-m.invariant.2 in
    let walks : Walk to.table.now to.number to.place to.first = search (stepping, rules) in
    (walks, tt, same, search (next, rules), select_counted c.args.table.now c.args.selection.now _ _ _ _ _ _ _ s c.loop-m.invariant.3)

pub returns : goal.returns
returns c =
    let e = c.loop-m.invariant in
    let l = past_end _ _ _ c.in-None.ensures.steps.1.0 e.2 in
    rw e.4 (selecting_all c.args.table.now c.args.selection.now _ _ e.3 l)
