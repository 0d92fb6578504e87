-- Rules for the code that plays a command.
use Rattle.std.specs.Prelude.{◌≡◌, Bool, true, false, cond, ◌&&◌, List, [], ◌∷◌, ℕ, ◌-◌, ◌≤◌, eqb, leb, ℤ, length, get_or, take, drop, Some, None}
use Rattle.std.specs.declared.option.Option.{Option}
use Rattle.std.proofs.Math.Path.{refl}
use Rattle.std.proofs.Common.{sym, ◌∙◌, ap, arith, leb-true}
use borrow.Author.Rules.{part_to_end}
use Rattle.values.specs.Room.{Room}
use Rattle.connections.specs.Connections.{Switches}
use Rattle.connections.specs.Round.{last_after}
use Rattle.connections.specs.Turn.{Turns, asked, tells}
use Rattle.connections.specs.declared.by_value.RowSwitched.{RowSwitched}
use Rattle.connections.specs.declared.by_value.RowTurned.{RowTurned}
use Rattle.connections.specs.declared.connection.Connection.{Connection}
use Rattle.turns.specs.Command.{switch_of, command_of}
use Rattle.turns.specs.Play.{told_bytes, unplayed, switched_to, turned_to, Plays, plays_nothing, plays_switch, plays_turn}
use Rattle.turns.specs.declared.command.Command.{Command}
use Rattle.turns.specs.declared.command.Command.TheVariants.{Switch, Turn}

-- a turn has 33 bytes or more
is_turn : Option Command → ℕ
is_turn None = 0
is_turn (Some (Switch want i)) = 0
is_turn (Some Turn) = 1

pub turn-long : (bs : List ℕ) (c : Option Command) (s : Command) → c ≡ command_of bs → c ≡ Some s → s ≡ Turn → 33 ≤ length bs
unfolding command_of switch_of is_turn
turn-long bs c s e h t = go (eqb (length bs) 2) (leb 33 (length bs)) refl (ap is_turn (sym e ∙ h ∙ ap Some t))
  where
    none : (a b : Bool) → is_turn (cond a (Some (Switch true (get_or bs 1 0))) (cond b (Some (Switch false (get_or bs 1 0))) None)) ≡ 0
    none true b = refl
    none false true = refl
    none false false = refl

    go : (x y : Bool) → leb 33 (length bs) ≡ y → is_turn (cond x (switch_of (get_or bs 0 0) (get_or bs 1 0)) (cond (y && eqb (get_or bs 0 0) 116) (Some Turn) None)) ≡ 1 → 33 ≤ length bs
    go x true f k = leb-true 33 (length bs) f
    go true false f k = absurd (let z = none (eqb (get_or bs 0 0) 111) (eqb (get_or bs 0 0) 99) in omega (arith, z, k))
    go false false f k = absurd (omega (arith, k))

module _ (r : Room) (row : List Connection) (last : ℕ) (command : List ℕ) (vs : List ℤ) (buffer : List ℕ) (c : Option Command) (e : c ≡ command_of command) where
  pub played_nothing : c ≡ None
      → Plays r row last command vs buffer (record { row = row; last = last; told = 0 ∷ 0 ∷ 0 ∷ 0 ∷ 0 ∷ 0 ∷ 0 ∷ []; count = 0; sent = 0 }) vs buffer
  unfolding unplayed
  played_nothing h = plays_nothing (sym e ∙ h) refl refl refl

  pub played_switch : (want : Bool) (i : ℕ) (d : RowSwitched) (s : Command) → c ≡ Some s → s ≡ Switch want i → Switches want row i d.number d.row
      → Plays r row last command vs buffer (record { row = d.row; last = last; told = d.number ∷ 0 ∷ 0 ∷ 0 ∷ 0 ∷ 0 ∷ 0 ∷ []; count = 1; sent = 0 }) vs buffer
  unfolding switched_to
  played_switch want i d s h t k = plays_switch want i d.number (sym e ∙ h ∙ ap Some t) k refl refl refl

  pub played_turn : (d : RowTurned) (counts : List ℕ) (vs' : List ℤ) (buffer' : List ℕ) (last' : ℕ) (told : List ℕ) (s : Command) → c ≡ Some s → s ≡ Turn → counts ≡ take 32 (drop 1 command)
      → Turns r (asked row last counts (take (length command - 33) (drop 33 command)) vs buffer) (tells d.turned vs' buffer') d.row
      → last' ≡ last_after last d.turned.served → told ≡ told_bytes d.turned
      → Plays r row last command vs buffer (record { row = d.row; last = last'; told = told; count = 7; sent = d.turned.sent }) vs' buffer'
  unfolding turned_to
  played_turn d counts vs' buffer' last' told s h u q t k m =
      rw (k, m) (plays_turn d.turned (sym e ∙ h ∙ ap Some u) (rw (q, part_to_end command 33) at t) refl)

pub ruleset playing = (turn-long, played_nothing, played_switch, played_turn)
