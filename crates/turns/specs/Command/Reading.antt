-- Rules for the code that reads a command.
use Rattle.std.specs.Prelude.{◌≡◌, true, false, List, ℕ, ◌≤◌, ◌<◌, length, get_or, Some, None}
use Rattle.std.proofs.Math.Path.{refl}
use borrow.Author.Tests.{eq-eqb, ne_eqb, le-leb, lt-leb}
use Rattle.std.specs.declared.option.Option.{Option}
use Rattle.turns.specs.Command.{switch_of, command_of}
use Rattle.turns.specs.declared.command.Command.{Command}
use Rattle.turns.specs.declared.command.Command.TheVariants.{Switch, Turn}

-- ---- two bytes

module _ (letter i : ℕ) where
  pub switch_open : letter ≡ 111 → Some (Switch true i) ≡ switch_of letter i
  unfolding switch_of
  switch_open e = rw (eq-eqb letter 111 e) refl

  pub switch_close : letter ≡ 99 → Some (Switch false i) ≡ switch_of letter i
  unfolding switch_of
  switch_close e = rw e refl

  pub switch_neither : (letter ≡ 111 → ⊥) → (letter ≡ 99 → ⊥) → None ≡ switch_of letter i
  unfolding switch_of
  switch_neither n h = rw (ne_eqb letter 111 n, ne_eqb letter 99 h) refl

pub ruleset switching = (switch_open, switch_close, switch_neither)

-- ---- a command

module _ (bs : List ℕ) where
  pub reads_switch : (c : Option Command) → length bs ≡ 2 → c ≡ switch_of (get_or bs 0 0) (get_or bs 1 0) → c ≡ command_of bs
  unfolding command_of
  reads_switch c n e = rw (e, eq-eqb (length bs) 2 n) refl

  pub reads_short : (length bs ≡ 2 → ⊥) → length bs < 33 → None ≡ command_of bs
  unfolding command_of
  reads_short n l = rw (ne_eqb (length bs) 2 n, lt-leb 33 (length bs) l) refl

  pub reads_turn : (length bs ≡ 2 → ⊥) → 33 ≤ length bs → get_or bs 0 0 ≡ 116 → Some Turn ≡ command_of bs
  unfolding command_of
  reads_turn n l e = rw (ne_eqb (length bs) 2 n, le-leb 33 (length bs) l, eq-eqb (get_or bs 0 0) 116 e) refl

  pub reads_other : (length bs ≡ 2 → ⊥) → 33 ≤ length bs → (get_or bs 0 0 ≡ 116 → ⊥) → None ≡ command_of bs
  unfolding command_of
  reads_other n l e = rw (ne_eqb (length bs) 2 n, le-leb 33 (length bs) l, ne_eqb (get_or bs 0 0) 116 e) refl

pub ruleset reading = (reads_switch, reads_short, reads_turn, reads_other)
