-- A whole line, with its 0D, given to a fresh port: the call tells the answer to it.
use Rattle.std.specs.Prelude.{◌≡◌, true, ℕ, suc, ◌≤◌, ℤ, length, Option}
use Rattle.std.proofs.Math.Path.{refl}
use mathlib.Core.List.{List, [], ◌∷◌, ◌++◌}
use Rattle.std.proofs.lemmas.List.Edits.{sets}
use Rattle.text.specs.Cut.{index_of}
use Rattle.text.specs.Cut.Lacking.{before-joined, has-joined, index_joined}
use Rattle.room.specs.Table.{sound}
use Rattle.values.specs.Room.{Room}
use Rattle.values.specs.Values.{values_sound}
use Rattle.syntax.specs.Shape.{line_limit}
use Rattle.line.specs.Answer.{answer}
use Rattle.syntax.specs.declared.cause.Malformed.{Malformed}
use Rattle.serial_port.specs.Call.{call, finish, replied, step, tell}
use Rattle.serial_port.specs.Call.Laws.{step-finishes}
use Rattle.serial_port.specs.Port.{fresh, view}
use Rattle.serial_port.specs.Port.Laws.{join-fresh}
use Rattle.serial_port.specs.Refusal.{reply_limit}
use Rattle.serial_port.specs.Refusal.Laws.{accepted}
use Rattle.serial_port.specs.Server.{control_space}
use Rattle.serial_port.specs.Server.Laws.{line_served}
use Rattle.serial_port.specs.declared.port.Port.{Port}

module _ (r : Room) (vs : List ℤ) (l reply : List ℕ) (f : Option Malformed) (ws : List ℤ) (a : answer r vs l ≡ record { reply = reply; values = ws; fault = f })
    (short : length l ≤ line_limit) (whole : index_of 0x0D l ≡ length l) where
  line_step : step (control_space r) vs fresh (l ++ 0x0D ∷ []) ≡ replied (suc (length l)) (record { reply = reply; fault = f; state = ws })
  unfolding finish
  line_step =
      rw (
        step-finishes (control_space r) vs fresh (l ++ 0x0D ∷ []) (has-joined 0x0D l [] whole),
        index_joined 0x0D l [] whole,
        before-joined 0x0D l [] whole,
        join-fresh l short,
        line_served r vs l reply f ws a,
      )

  pub line_told : (p : Port) (buffer : List ℕ) → sound r.table ≡ true → values_sound r vs ≡ true → reply_limit ≤ length buffer → p.len ≤ line_limit → view p ≡ fresh
      → call r vs p (l ++ 0x0D ∷ []) buffer
      ≡ record { number = 0; consumed = suc (length l); sent = length reply; fault = f; state = ws; buffer = sets buffer 0 reply }
  unfolding call tell replied
  line_told p buffer s g room few v = rw (accepted r vs (length buffer) p.len s g room few, v, line_step) refl
