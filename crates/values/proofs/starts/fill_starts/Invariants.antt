-- `fill_starts`: the entries passed are start values, the later ones are as before.
use Rattle.values.specs.Starts.Filling.{Filling}
use Rattle.values.proofs.starts.fill_starts.Given as goal

abbrev pub invariant-loop-k : goal.invariant-loop-k
invariant-loop-k l = Filling l.table l.initial.values l.count l.values l.k
