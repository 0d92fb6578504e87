-- How a port call keeps its promise: one rule for each way to return.
use Rattle.std.specs.Prelude.{◌≡◌, true, false, List, length, None, Option}
use Rattle.std.proofs.Math.Path.{refl}
use Prim.Native.Nat.{ℕ, zero, suc, ◌≤◌}
use Rattle.std.proofs.lemmas.List.Edits.{sets}
use Rattle.syntax.specs.Shape.{line_limit}
use Rattle.syntax.specs.declared.cause.Malformed.{Malformed}
use Rattle.serial_port.specs.Server.{Server}
use Rattle.serial_port.specs.Port.{view, fresh, gathered, Gathers}
use Rattle.serial_port.specs.Port.Gathering.{gathered-by, gathered-few}
use Rattle.serial_port.specs.Call.{finish, step, served, replied, waiting, tell, tells, Takes, takes}
use Rattle.serial_port.specs.declared.port.Called.{Called}
use Rattle.serial_port.specs.declared.port.Port.{Port}
use Rattle.serial_port.specs.declared.port.Gathered.{Gathered}

-- the answer of a refusal: the port as it was given, zeros and no fault
abbrev pub refusal : Port → (number : ℕ) → Called
refusal p number = record { port = p; consumed = 0; sent = 0; fault = None; number = number }

module _ {S : Type 0} (server : Server S) (s : S) (p : Port) (bs buffer : List ℕ) where
  -- a refusal
  pub returns_refused : (n : ℕ) → (n ≡ 0 → ⊥) → Takes server n s p bs buffer (refusal p n) s buffer
  unfolding tell tells
  returns_refused zero h = absurd (h refl)
  returns_refused (suc n) h = takes refl refl

  -- what a call does with what it gathered
  module _ (g : Gathered) (h : Gathers p bs g) where
    stepped : step server s (view p) bs ≡ served server s (gathered g)
    unfolding step
    stepped = rw (gathered-by h) refl

    -- no 0D: no reply, and the port with the longer line
    pub returns_waiting : g.finished ≡ false → Takes server 0 s p bs buffer (record { port = g.port; consumed = g.consumed; sent = 0; fault = None; number = 0 }) s buffer
    unfolding tell tells served gathered waiting
    returns_waiting w = takes (rw (stepped, w) refl) (rw (stepped, w) (refl, gathered-few h))

    -- an 0D: the reply to the line is written, and the port is fresh
    pub returns_finished : (q : Port) (n : ℕ) (f : Option Malformed) (s' : S) (buffer' : List ℕ) → g.finished ≡ true → n ≡ length (finish server s (view g.port)).reply
        → f ≡ (finish server s (view g.port)).fault
        → s' ≡ (finish server s (view g.port)).state → buffer' ≡ sets buffer 0 (finish server s (view g.port)).reply → view q ≡ fresh → q.len ≤ line_limit
        → Takes server 0 s p bs buffer (record { port = q; consumed = g.consumed; sent = n; fault = f; number = 0 }) s' buffer'
    unfolding tell tells served gathered replied
    returns_finished q n x s' buffer' f l y v b e k = takes (rw (stepped, f, l, y, v, b) refl) (rw (stepped, f) (e, k))
