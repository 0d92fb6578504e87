-- `parameter_at`: the parameters of the records passed are before the one sought.
use borrow.Author.Rules.{rules}
use Rattle.room.specs.Table.Steps.{Step, step_known, stepping}
use Rattle.values.specs.Parameters.Walk.{passing}
use Rattle.values.proofs.parameter.parameter_at.Goals as goal

pub loop-m-init-derived : goal.loop-m-init-derived
loop-m-init-derived c = search (stepping, rules)

pub loop-m-init : goal.loop-m-init
loop-m-init c = search (passing, stepping, rules)

pub overflow_sub-within : goal.overflow_sub-within
overflow_sub-within c =
    let it = c.loop-m.m-iterator in
    let to = c.next.new.self in
    let s : Step c.args.table.now it.number it.place it.first c.in-Some.m to.number to.place to.first = search (stepping, rules) in
    search (passing, s, rules)

pub row_count-requires : goal.row_count-requires
row_count-requires c =
    let it = c.loop-m.m-iterator in
    let to = c.next.new.self in
    let s : Step c.args.table.now it.number it.place it.first c.in-Some.m to.number to.place to.first = search (stepping, rules) in
    search (step_known, s, rules)

pub row_of-row-requires : goal.row_of-row-requires
row_of-row-requires c =
    let it = c.loop-m.m-iterator in
    let to = c.next.new.self in
    let s : Step c.args.table.now it.number it.place it.first c.in-Some.m to.number to.place to.first = search (stepping, rules) in
    search (passing, step_known, s, rules)

pub returns-then-within-row_count : goal.returns-then-within-row_count
returns-then-within-row_count c =
    let it = c.loop-m.m-iterator in
    let to = c.next.new.self in
    let s : Step c.args.table.now it.number it.place it.first c.in-Some.m to.number to.place to.first = search (stepping, rules) in
    search (passing, s, rules)

pub loop-m-preserved : goal.loop-m-preserved
loop-m-preserved c =
    let it = c.loop-m.m-iterator in
    let to = c.next.new.self in
    let s : Step c.args.table.now it.number it.place it.first c.in-Some.m to.number to.place to.first = search (stepping, rules) in
    search (passing, stepping, s, rules)

pub returns : goal.returns
returns c = search (passing, stepping, rules)
