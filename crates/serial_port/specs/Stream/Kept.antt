-- Right values stay right: through a call, and through bytes that are fed.
use Rattle.std.specs.Prelude.{◌≡◌, true, List, ℕ, ◌≤◌, ℤ}
use Rattle.room.specs.Table.{sound}
use Rattle.values.specs.Room.{Room}
use Rattle.syntax.specs.Shape.{line_limit}
use Rattle.serial_port.specs.Server.{control_space}
use Rattle.serial_port.specs.Port.{View, view}
use Rattle.serial_port.specs.Port.Laws.{claim-view}
use Rattle.serial_port.specs.Call.{step}
use Rattle.serial_port.specs.Play.Kept.{feed-keeps, step_keeps}
use Rattle.serial_port.specs.Play.Laws.{Right, keeps_right}
use Rattle.serial_port.specs.Stream.{flow}
use Rattle.serial_port.specs.declared.port.Port.{Port}

module _ (r : Room) (vs : List ℤ) (is-sound : sound r.table ≡ true) (g : Right r vs) where
  pub step_right : (v : View) (bs : List ℕ) → Right r (step (control_space r) vs v bs).state
  step_right v bs = step_keeps (control_space r) (Right r) (keeps_right r is-sound) v vs bs g

  pub flow-right : (p : Port) → p.len ≤ 64 → (bs : List ℕ) → Right r (flow r vs p bs).state
  unfolding flow line_limit
  flow-right p k bs = feed-keeps (control_space r) (Right r) (keeps_right r is-sound) (view p) vs bs (claim-view p k) g
