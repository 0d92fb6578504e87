-- `Port::limits`: the constants of the type are the limits of the rules.
use mathlib.Core.Path.{refl}
use Rattle.room.specs.Table.{record_limit}
use Rattle.syntax.specs.Shape.{line_limit}
use Rattle.serial_port.specs.Refusal.{reply_limit}
use Rattle.serial_port.proofs.port.Port.limits.Statement.{statement}
use Rattle.serial_port.proofs.port.Port.limits.Tie as tie

returns : tie.Need-returns
unfolding line_limit reply_limit record_limit
returns c = refl

pub limits_spec : {M : Type 1} → statement M
limits_spec = tie.close (tie.spec returns)
