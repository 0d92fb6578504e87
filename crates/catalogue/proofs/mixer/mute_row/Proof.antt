-- `mute_row`: the row as it is defined.
use mathlib.Core.Path.{refl}
use Rattle.catalogue.specs.Mixer.{mute}
use Rattle.catalogue.proofs.mixer.mute_row.Statement.{statement}
use Rattle.catalogue.proofs.mixer.mute_row.Tie as tie

returns : tie.Need-returns
unfolding mute
returns c = refl

pub mute_row_spec : {M : Type 1} → statement M
mute_row_spec = tie.close (tie.spec returns)
