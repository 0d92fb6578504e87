-- Feeding nothing, and bytes in two parts: the second part is fed to the port and the values that the first one leaves.
use Rattle.std.specs.Prelude.{◌≡◌, List, [], ◌++◌, ℕ, ◌+◌, ℤ, take, drop}
use Rattle.std.proofs.Math.Path.{refl}
use Rattle.std.proofs.Common.{take-add}
use Rattle.values.specs.Room.{Room}
use Rattle.serial_port.specs.Server.{control_space}
use Rattle.serial_port.specs.Port.{view}
use Rattle.serial_port.specs.Play.{ended}
use Rattle.serial_port.specs.Play.Feed.{followed, feed-nothing, feed-append}
use Rattle.serial_port.specs.Stream.{flow}
use Rattle.serial_port.specs.declared.port.Port.{Port}

module _ (r : Room) (vs : List ℤ) (p : Port) where
  pub flow-nothing : flow r vs p [] ≡ ended (view p) vs
  unfolding flow
  flow-nothing = feed-nothing (control_space r) (view p) vs

  pub nothing_values : (flow r vs p []).state ≡ vs
  unfolding ended
  nothing_values = rw flow-nothing refl

  pub nothing_seen : (flow r vs p []).port ≡ view p
  unfolding ended
  nothing_seen = rw flow-nothing refl

  -- bs were fed and left vs' and q, and more follow
  module _ (bs : List ℕ) (vs' : List ℤ) (q : Port) (v : vs' ≡ (flow r vs p bs).state) (s : view q ≡ (flow r vs p bs).port) (more : List ℕ) where
    pub flow-on : flow r vs p (bs ++ more) ≡ followed (flow r vs p bs) (flow r vs' q more)
    unfolding flow
    flow-on = rw (v, s) (feed-append (control_space r) (view p) vs bs more)

    pub on_values : (flow r vs p (bs ++ more)).state ≡ (flow r vs' q more).state
    unfolding followed
    on_values = rw flow-on refl

    pub on_seen : (flow r vs p (bs ++ more)).port ≡ (flow r vs' q more).port
    unfolding followed
    on_seen = rw flow-on refl

  -- `at` bytes of bs were fed and left vs' and q, and n more follow
  pub flow-more : (bs : List ℕ) (at : ℕ) (vs' : List ℤ) (q : Port) → vs' ≡ (flow r vs p (take at bs)).state → view q ≡ (flow r vs p (take at bs)).port
      → (n : ℕ) → flow r vs p (take (at + n) bs) ≡ followed (flow r vs p (take at bs)) (flow r vs' q (take n (drop at bs)))
  flow-more bs at vs' q v s n = rw (take-add at n bs) (flow-on (take at bs) vs' q v s (take n (drop at bs)))
