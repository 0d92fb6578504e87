-- `level_row`: the row as it is defined.
use mathlib.Core.Path.{refl}
use Rattle.catalogue.specs.Mixer.{fader}
use Rattle.catalogue.proofs.mixer.level_row.Statement.{statement}
use Rattle.catalogue.proofs.mixer.level_row.Tie as tie

returns : tie.Need-returns
unfolding fader
returns c = refl

pub level_row_spec : {M : Type 1} → statement M
level_row_spec = tie.close (tie.spec returns)
