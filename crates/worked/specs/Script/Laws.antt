-- Laws of a script: how far a line goes, and what playing the rest of a script comes to.
use Rattle.std.specs.Prelude.{◌≡◌, Bool, true, false, cond, ℤ, length, drop}
use Rattle.std.proofs.Math.Path.{refl}
use mathlib.Core.List.{List, [], ◌∷◌}
use Prim.Native.Nat.{ℕ, zero, suc, ◌+◌, ◌-◌, ◌≤◌}
use native.Mathlib.Omega.{arith}
use Rattle.std.proofs.Math.ListN.{length-drop}
use Rattle.room.specs.Table.{sound}
use Rattle.values.specs.Room.{Room, room_of}
use Rattle.values.specs.Starts.{starts}
use Rattle.serial_port.specs.Server.{Server, control_space}
use Rattle.serial_port.specs.Call.{step}
use Rattle.serial_port.specs.Port.{View, fresh, view}
use Rattle.serial_port.specs.Call.Accepted.{consumed_most, consumed_some}
use Rattle.serial_port.specs.declared.port.Port.{Port}
use Rattle.worked.specs.Script.{Outcome, Plays, plays, counted, outcome, play_from, tally, turn, turned}
use Rattle.worked.specs.Script.Cutting.{through-most}
use Rattle.worked.specs.declared.play.Played.{Played}
use Rattle.worked.specs.declared.play.Tally.{Tally}

-- ---- the two parts of the promise

module _ {r : Room} {vs : List ℤ} {p : Port} {script : List ℕ} {g : Played} {vs' : List ℤ} where
  pub line_by : Plays r vs p script g vs' → turned g vs' ≡ turn (control_space r) vs (view p) script
  line_by (plays line few) = line

  pub few_by : Plays r vs p script g vs' → g.port.len ≤ 64
  few_by (plays line few) = few

-- ---- one line

module _ (server : Server (List ℤ)) (vs : List ℤ) (v : View) (script : List ℕ) where
  pub turn-most : (turn server vs v script).passed ≤ length script
  unfolding turn
  turn-most =
      let n = (step server vs v script).consumed in
      omega (arith, consumed_most server v vs script, through-most (drop n script), length-drop n script)

  -- a line has a byte or more
  pub turn-some : 1 ≤ length script → 1 ≤ (turn server vs v script).passed
  unfolding turn
  turn-some h = omega (arith, consumed_some server v vs script h)

-- ---- the rest of a script: nothing, a wrong answer, or a right one and what follows

module _ (server : Server (List ℤ)) (vs : List ℤ) (v : View) (right at : ℕ) where
  pub none_left : (lines : ℕ) (rest : List ℕ) → length rest ≤ 0 → play_from lines server vs v right at rest ≡ record { right = right; at = at; values = vs }
  unfolding play_from
  none_left zero rest h = refl
  none_left (suc lines) [] h = refl
  none_left (suc lines) (b ∷ bs) h = absurd (omega arith)

  pub wrong_next : (lines : ℕ) (rest : List ℕ) → 1 ≤ length rest → length rest ≤ lines → (turn server vs v rest).right ≡ false
      → play_from lines server vs v right at rest ≡ record { right = right; at = at; values = (turn server vs v rest).values }
  unfolding play_from
  wrong_next zero rest h k e = absurd (omega arith)
  wrong_next (suc lines) [] h k e = absurd (omega arith)
  wrong_next (suc lines) (b ∷ bs) h k e = rw e refl

  pub right_next : (lines : ℕ) (rest : List ℕ) → 1 ≤ length rest → length rest ≤ lines → (turn server vs v rest).right ≡ true
      → play_from lines server vs v right at rest
      ≡ play_from (lines - 1) server (turn server vs v rest).values (turn server vs v rest).port (right + 1) (at + (turn server vs v rest).passed)
      (drop (turn server vs v rest).passed rest)
  unfolding play_from
  right_next zero rest h k e = absurd (omega arith)
  right_next (suc lines) [] h k e = absurd (omega arith)
  right_next (suc lines) (b ∷ bs) h k e = let z : suc lines - 1 ≡ lines = omega arith in rw (e, z) refl

-- ---- there are no more lines than bytes

-- as many lines as bytes, or fewer
abbrev Few : Outcome → Type 0
Few o = o.right ≤ o.at

few_from : (lines : ℕ) (server : Server (List ℤ)) (vs : List ℤ) (v : View) (right at : ℕ) (rest : List ℕ) → right ≤ at → Few (play_from lines server vs v right at rest)
unfolding play_from
few_from zero server vs v right at rest h = h
few_from (suc lines) server vs v right at [] h = h
few_from (suc lines) server vs v right at (b ∷ bs) h =
    let s = turn server vs v (b ∷ bs) in
    let some = turn-some server vs v (b ∷ bs) (omega arith) in
    go s.right
    (play_from lines server s.values s.port (right + 1) (at + s.passed) (drop s.passed (b ∷ bs)))
    (few_from lines server s.values s.port (right + 1) (at + s.passed) (drop s.passed (b ∷ bs)) (omega arith))
  where
    go : (c : Bool) (o : Outcome) → Few o → Few (cond c o (record { right = right; at = at; values = (turn server vs v (b ∷ bs)).values }))
    go true o k = k
    go false o k = h

pub tally-few : (t script : List ℕ) (r : Tally) → r ≡ tally t script → r.right ≤ r.at
unfolding tally counted outcome
tally-few t script r e = rw e (go (sound t))
  where
    o : Outcome
    o = play_from (length script) (control_space (room_of t)) (starts t) fresh 0 0 script

    go : (s : Bool) → (cond s (counted o) (record { right = 0; at = 0 })).right ≤ (cond s (counted o) (record { right = 0; at = 0 })).at
    go true = few_from (length script) (control_space (room_of t)) (starts t) fresh 0 0 script (omega arith)
    go false = omega arith
