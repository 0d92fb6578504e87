-- `parameter_count`: the first value of the next record is the number of parameters passed.
use borrow.Author.Rules.{rules}
use Rattle.room.specs.Table.Steps.{Step, step_known, step_fits, step_first, step_of, stepping}
use Rattle.values.specs.Parameters.Walk.{counting}
use Rattle.values.proofs.parameter.parameter_count.Goals as goal

pub loop-m-init-derived : goal.loop-m-init-derived
loop-m-init-derived c = search (stepping, rules)

pub loop-m-init : goal.loop-m-init
loop-m-init c = search (counting, stepping, rules)

pub row_count-passed-requires : goal.row_count-passed-requires
row_count-passed-requires c =
    let it = c.loop-m.m-iterator in
    let to = c.next.new.self in
    let s : Step c.args.table.now it.number it.place it.first c.in-Some.m to.number to.place to.first = step_of _ _ _ _ _ _ _ _ _ c.in-Some.ensures.steps.1 c.loop-m.invariant.2 in
    step_known _ _ _ _ _ _ _ _ s c.loop-m.invariant.3.walk

pub overflow_add-passed : goal.overflow_add-passed
overflow_add-passed c =
    let it = c.loop-m.m-iterator in
    let to = c.next.new.self in
    let s : Step c.args.table.now it.number it.place it.first c.in-Some.m to.number to.place to.first = step_of _ _ _ _ _ _ _ _ _ c.in-Some.ensures.steps.1 c.loop-m.invariant.2 in
    rw c.loop-m.invariant.4 (step_fits _ _ _ _ _ _ _ _ s c.loop-m.invariant.3.walk _ c.row_count-passed.ensures)

pub loop-m-preserved : goal.loop-m-preserved
loop-m-preserved c =
    let it = c.loop-m.m-iterator in
    let to = c.next.new.self in
    let s : Step c.args.table.now it.number it.place it.first c.in-Some.m to.number to.place to.first = step_of _ _ _ _ _ _ _ _ _ c.in-Some.ensures.steps.1 c.loop-m.invariant.2 in
    search (counting, stepping, step_first, s, rules)

pub returns : goal.returns
returns c = search (counting, stepping, rules)
