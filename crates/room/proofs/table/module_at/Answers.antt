-- `module_at`: the walk passes the modules before the one asked.
use borrow.Author.Rules.{rules}
use Rattle.room.specs.Table.Reached.{Reached, reached_module, reaching}
use Rattle.room.specs.Table.Steps.{Step, stepping}
use Rattle.room.proofs.table.module_at.Goals as goal

pub loop-m-init-derived : goal.loop-m-init-derived
loop-m-init-derived c = search (stepping, rules)

pub loop-m-init : goal.loop-m-init
loop-m-init c = search (reaching, stepping, rules)

pub returns-then-m-number : goal.returns-then-m-number
returns-then-m-number c =
    let it = c.loop-m.m-iterator in
    let to = c.next.new.self in
    let s : Step c.args.table.now it.number it.place it.first c.in-Some.m to.number to.place to.first = search (stepping, rules) in
    let r : Reached c.args.table.now c.args.number it.number it.place it.first = search rules in
    reached_module _ _ _ _ _ _ _ _ _ r s c.if-m-number.true

pub loop-m-preserved : goal.loop-m-preserved
loop-m-preserved c = search (reaching, stepping, rules)

pub returns : goal.returns
returns c = search (reaching, stepping, rules)
