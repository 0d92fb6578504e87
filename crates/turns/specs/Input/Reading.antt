-- Rules for the code that reads commands and writes what they tell.
use Rattle.std.specs.Prelude.{◌≡◌, List, ℕ, ◌≤◌, ℤ, take}
use Rattle.std.proofs.Math.Path.{refl}
use Rattle.std.proofs.Common.{◌∙◌, arith}
use Rattle.std.proofs.Math.ListN.{length}
use Rattle.text.specs.Cut.Part.{part-counts}
use Rattle.values.specs.Room.{Room}
use Rattle.connections.proofs.Laws.Turn.Laws as turn
use Rattle.connections.specs.declared.connection.Connection.{Connection}
use Rattle.turns.specs.Play.{unplayed, switched_to, turned_to, Plays, plays_nothing, plays_switch, plays_turn}
use Rattle.turns.specs.declared.play.Played.{Played}

-- ---- one command

-- a buffer for a command has a first byte
pub first_part : (l : List ℕ) → 8193 ≤ length l → 1 ≡ length (take 1 l)
first_part l h = part-counts l 1 (omega arith)

-- ---- command after command

-- the buffers are as long as they were, and that for a command has room for the longest
pub record Goes (values₀ : List ℤ) (input₀ reply₀ : List ℕ) (values : List ℤ) (input reply : List ℕ) : Type 0 where
  pub size : length values ≡ length values₀
  pub input-long : length input ≡ length input₀
  pub reply_long : length reply ≡ length reply₀
  pub room : 8193 ≤ length input₀

pub goes_start : (values : List ℤ) (input reply : List ℕ) → 8193 ≤ length input → Goes values input reply values input reply
goes_start values input reply h = record { size = refl; input-long = refl; reply_long = refl; room = h }

module _ (values₀ : List ℤ) (input₀ reply₀ : List ℕ) (values : List ℤ) (input reply : List ℕ) (g : Goes values₀ input₀ reply₀ values input reply) where
  pub goes_room : 8193 ≤ length input
  goes_room = omega (arith, g.input-long, g.room)

  pub goes_next : (values' : List ℤ) (input' reply' : List ℕ) → length values' ≡ length values → length input' ≡ length input → length reply' ≡ length reply
      → Goes values₀ input₀ reply₀ values' input' reply'
  goes_next values' input' reply' e f h = record { size = e ∙ g.size; input-long = f ∙ g.input-long; reply_long = h ∙ g.reply_long; room = g.room }

module _ (r : Room) (row : List Connection) (last : ℕ) (command : List ℕ) (vs : List ℤ) (buffer : List ℕ) (p : Played) (vs' : List ℤ) (buffer' : List ℕ)
    (h : Plays r row last command vs buffer p vs' buffer') where
  -- seven bytes tell of a command at most
  pub told-within : p.count ≤ 7
  unfolding unplayed switched_to turned_to
  told-within = go h
    where
      go : Plays r row last command vs buffer p vs' buffer' → p.count ≤ 7
      go (plays_nothing c e f g) = let n : p.count ≡ 0 = rw e refl in omega (arith, n)
      go (plays_switch want i number c s e f g) = let n : p.count ≡ 1 = rw e refl in omega (arith, n)
      go (plays_turn t c s e) = let n : p.count ≡ 7 = rw e refl in omega (arith, n)

  -- the reply lies within its buffer
  pub sent_within : length buffer' ≡ length buffer → p.sent ≤ length buffer'
  unfolding unplayed switched_to turned_to
  sent_within l = go h
    where
      go : Plays r row last command vs buffer p vs' buffer' → p.sent ≤ length buffer'
      go (plays_nothing c e f g) = let n : p.sent ≡ 0 = rw e refl in omega (arith, n)
      go (plays_switch want i number c s e f g) = let n : p.sent ≡ 0 = rw e refl in omega (arith, n)
      go (plays_turn t c s e) = let n : p.sent ≡ t.sent = rw e refl in omega (arith, n, l, turn.sent_within t vs' buffer' s)

pub ruleset commands = (part-counts, goes_start, goes_room, goes_next, told-within, sent_within)
