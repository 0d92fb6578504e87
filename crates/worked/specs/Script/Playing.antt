-- Rules for the code that plays a script: what holds from line to line.
use Rattle.std.specs.Prelude.{◌≡◌, refl, true, false, not, List, ℕ, ◌+◌, ◌-◌, ◌≤◌, ◌<◌, ℤ, take, drop}
use Rattle.std.proofs.Math.Path.{sym, ap}
use Rattle.std.proofs.Common.{◌∙◌, arith, length-drop, drop-drop, Fits}
use borrow.Author.Tests.{not-false, not-true}
use borrow.Author.Rules.{part_to_end}
use Rattle.std.proofs.Math.ListN.{length}
use Rattle.std.specs.Int.{w64}
use Rattle.room.specs.Table.{sound}
use Rattle.values.specs.Room.{Room}
use Rattle.values.specs.Values.{values_sound}
use Rattle.values.specs.Values.Laws.{values_many}
use Rattle.serial_port.specs.Server.{control_space}
use Rattle.serial_port.specs.Port.{fresh, view}
use Rattle.serial_port.specs.Stream.Kept.{step_right}
use Rattle.serial_port.specs.declared.port.Port.{Port}
use Rattle.worked.specs.Script.{Plays, outcome, play_from, told, turn, turned}
use Rattle.worked.specs.Script.Laws.{few_by, line_by, none_left, right_next, turn-most, turn-some, wrong_next}
use Rattle.worked.specs.declared.play.Played.{Played}

-- `right` lines, which end at `at`, got the reply that the script says; `left` more are enough for the rest
pub record Playing (r : Room) (vs : List ℤ) (script : List ℕ) (vs' : List ℤ) (q : Port) (at right : ℕ) : Type 0 where
  pub sounds : sound r.table ≡ true
  pub permitted : values_sound r vs' ≡ true
  pub size : length vs' ≡ length vs
  pub few : q.len ≤ 64
  pub within : at ≤ length script
  pub lines : right ≤ at
  pub fits : length script < 18446744073709551616
  pub left : ℕ
  pub enough : length script ≤ at + left
  pub rest : outcome r vs script ≡ play_from left (control_space r) vs' (view q) right at (drop at script)

module _ (r : Room) (vs : List ℤ) (script : List ℕ) where
  pub playing_start : (q : Port) → sound r.table ≡ true → values_sound r vs ≡ true → length script < 18446744073709551616 → view q ≡ fresh → q.len ≡ 0
      → Playing r vs script vs q 0 0
  playing_start q s g f e z =
      record {
        sounds = s;
        permitted = g;
        size = refl;
        few = omega arith;
        within = omega arith;
        lines = omega arith;
        fits = f;
        left = length script;
        enough = omega arith;
        rest = rw e (unfold outcome in refl);
      }

  module _ (vs' : List ℤ) (q : Port) (at right : ℕ) (h : Playing r vs script vs' q at right) where
    pub playing_end : length script ≤ at → told (record { right = right; at = at }) vs' ≡ outcome r vs script
    unfolding told
    playing_end l =
        let none : length (drop at script) ≤ 0 = rw (length-drop at script) (omega arith) in
        sym (h.rest ∙ none_left (control_space r) vs' (view q) right at h.left (drop at script) none)

    -- ---- one more line
    module _ (g : Played) (vs'' : List ℤ) (l : at < length script) (p : Plays r vs' q (take (length script - at) (drop at script)) g vs'') where
      line : turned g vs'' ≡ turn (control_space r) vs' (view q) (drop at script)
      line = rw (part_to_end script at) at (line_by p)

      long : length (drop at script) ≡ length script - at
      long = length-drop at script

      passed_is : g.passed ≡ (turn (control_space r) vs' (view q) (drop at script)).passed
      unfolding turned
      passed_is = ap (λ x. x.passed) line

      values_are : vs'' ≡ (turn (control_space r) vs' (view q) (drop at script)).values
      unfolding turned
      values_are = ap (λ x. x.values) line

      right_is : g.right ≡ (turn (control_space r) vs' (view q) (drop at script)).right
      unfolding turned
      right_is = ap (λ x. x.right) line

      seen_is : view g.port ≡ (turn (control_space r) vs' (view q) (drop at script)).port
      unfolding turned
      seen_is = ap (λ x. x.port) line

      most : g.passed ≤ length script - at
      most = rw (passed_is, ← long) (turn-most (control_space r) vs' (view q) (drop at script))

      some : 1 ≤ g.passed
      some = rw passed_is (turn-some (control_space r) vs' (view q) (drop at script) (rw long (omega arith)))

      permitted-after : values_sound r vs'' ≡ true
      unfolding turn
      permitted-after = rw values_are (step_right r vs' h.sounds h.permitted (view q) (drop at script))

      pub playing_size : length vs'' ≡ length vs
      playing_size = values_many r vs'' permitted-after ∙ sym (values_many r vs' h.permitted) ∙ h.size

      pub playing_at : Fits w64 (at + g.passed)
      playing_at = record { fits = omega (arith, most, h.fits) }

      pub playing_right : Fits w64 (right + 1)
      playing_right = record { fits = omega (arith, h.lines, h.fits) }

      pub playing_less : length script - (at + g.passed) < length script - at
      playing_less = omega (arith, most, some)

      -- a wrong answer ends the play
      pub playing_wrong : not g.right ≡ true → told (record { right = right; at = at }) vs'' ≡ outcome r vs script
      unfolding told
      playing_wrong n =
          let wrong = sym right_is ∙ not-true g.right n in
          rw values_are
          (sym (h.rest ∙ wrong_next (control_space r) vs' (view q) right at h.left (drop at script) (rw long (omega arith)) (rw long (omega (arith, h.enough))) wrong))

      pub playing_next : not g.right ≡ false → Playing r vs script vs'' g.port (at + g.passed) (right + 1)
      playing_next n =
          let is_right = sym right_is ∙ not-false g.right n in
          let e = right_next (control_space r) vs' (view q) right at h.left (drop at script) (rw long (omega arith)) (rw long (omega (arith, h.enough))) is_right in
          record {
            sounds = h.sounds;
            permitted = permitted-after;
            size = playing_size;
            few = few_by p;
            within = omega (arith, most);
            lines = omega (arith, some, h.lines);
            fits = h.fits;
            left = h.left - 1;
            enough = omega (arith, some, h.enough);
            rest = h.rest ∙ rw (values_are, seen_is, ← (drop-drop g.passed at script), passed_is) e;
          }

pub ruleset playing =
    (playing_start, playing_end, playing_size, playing_at, playing_right, playing_less, playing_wrong, playing_next)
