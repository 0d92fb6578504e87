-- `listed_fits`: the values passed are permitted.
use Rattle.values.specs.Permit.Testing.{Tested}
use Rattle.values.proofs.module_values.listed_fits.Given as goal

abbrev pub invariant-loop-j : goal.invariant-loop-j
invariant-loop-j l = Tested l.first l.values l.j
