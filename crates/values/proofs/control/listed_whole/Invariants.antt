-- `listed_whole`: the rows passed have other indices.
use Rattle.values.specs.Parameters.Seeking.{Seeking}
use Rattle.values.proofs.control.listed_whole.Given as goal

abbrev pub invariant-loop-j : goal.invariant-loop-j
invariant-loop-j l = Seeking l.m l.indices l.count l.j
