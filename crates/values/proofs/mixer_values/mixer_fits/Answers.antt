-- `mixer_fits`: the rules of its loop.
use borrow.Author.Rules.{rules}
use Rattle.values.specs.Permit.Mixed.{mixing}
use Rattle.values.proofs.mixer_values.mixer_fits.Goals as goal

pub loop-j-init : goal.loop-j-init
loop-j-init c = search (mixing, rules)

pub returns-then-not-mixer_permits : goal.returns-then-not-mixer_permits
returns-then-not-mixer_permits c = search (mixing, rules)

pub loop-j-preserved : goal.loop-j-preserved
loop-j-preserved c = search (mixing, rules)

pub returns : goal.returns
returns c = search (mixing, rules)
