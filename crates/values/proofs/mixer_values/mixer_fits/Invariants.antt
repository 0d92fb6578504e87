-- `mixer_fits`: the values passed are permitted.
use Rattle.values.specs.Permit.Mixed.{Mixed}
use Rattle.values.proofs.mixer_values.mixer_fits.Given as goal

abbrev pub invariant-loop-j : goal.invariant-loop-j
invariant-loop-j l = Mixed l.inputs l.outputs l.values l.j
