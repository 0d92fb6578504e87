-- What a port is seen as.
use Rattle.std.specs.Prelude.{◌≡◌, refl, true, false, ◌++◌, ◌-◌, ◌≤◌, length, replicate}
use Rattle.std.proofs.Common.{ap, arith}
use Rattle.std.proofs.Math.Seq.{take-append_seam}
use Rattle.syntax.specs.Shape.{line_limit}
use Rattle.serial_port.specs.Port.{View, held, over, view, fresh, claim}
use Rattle.serial_port.specs.declared.port.Port.{Port}

-- a port that has not overrun and claims no byte is fresh, whatever is stored in it
pub seen_fresh : (p : Port) → p.overrun ≡ false → p.len ≡ 0 → view p ≡ fresh
unfolding view fresh
seen_fresh p o z = rw (o, z) refl

-- of each view that holds at most 64 bytes there is a port
pub port_seen : (v : View) → claim v ≤ line_limit → (p : Port) × (view p ≡ v) × (p.len ≤ line_limit)
unfolding view claim
port_seen (held l) h = (record { held = l ++ replicate (64 - length l) 0; len = length l; overrun = false }, ap held (take-append_seam l (replicate (64 - length l) 0)), h)
port_seen over h = (record { held = replicate 64 0; len = 0; overrun = true }, refl, omega arith)
