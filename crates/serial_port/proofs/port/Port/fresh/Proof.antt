-- `Port::fresh`: it holds nothing.
use mathlib.Core.Path.{refl}
use Rattle.serial_port.specs.Port.{fresh, view}
use Rattle.serial_port.proofs.port.Port.fresh.Statement.{statement}
use Rattle.serial_port.proofs.port.Port.fresh.Tie as tie

returns : tie.Need-returns
unfolding fresh view
returns c = (refl, refl)

pub fresh_spec : {M : Type 1} → statement M
fresh_spec = tie.close (tie.spec returns)
