-- Rules for the code that answers one read: its bytes, and the ways in which the read ends.
use Rattle.std.specs.Prelude.{◌≡◌, refl, true, List, ℕ, ◌*◌, ◌≤◌, ℤ, length, take, Ok, Err}
use Rattle.std.proofs.Common.{arith}
use Rattle.text.specs.Cut.Part.{part-counts}
use Rattle.text.specs.Written.Laws.{wrote_length}
use Rattle.room.specs.Table.{sound}
use Rattle.values.specs.Room.{Room}
use Rattle.values.specs.Values.{values_sound}
use Rattle.serial_port.specs.Stream.{Serves}
use Rattle.serial_port.specs.Stream.Whole.{whole-replies, whole-values, whole-seen, whole-few}
use Rattle.serial_port.specs.declared.port.Port.{Port}
use Rattle.serial_port.specs.declared.stream.Served.{Served}
use Rattle.port.specs.Input.{Answers, answers, AnswersRead, nothing, something, bytes_of}
use Rattle.port.specs.declared.bytes.Answered.{Answered}
use Rattle.port.specs.declared.standard_input.Ended.TheVariants.{Nothing, Unwritten}

-- ---- the bytes of a read

pub all_answered : (r : Room) (vs : List ℤ) (p : Port) (bs out : List ℕ) (s : Served) (vs' : List ℤ) (out' : List ℕ)
    → sound r.table ≡ true → values_sound r vs ≡ true → 64 * length bs ≤ length out
    → Serves r vs p bs out s vs' out' → Answers r vs p bs out (record { port = s.port; sent = s.sent }) vs' out'
all_answered r vs p bs out s vs' out' h g l a =
    answers
    (whole-replies r vs p bs out s vs' out' h g l a)
    a.room
    (whole-values r vs p bs out s vs' out' h g l a)
    (whole-seen r vs p bs out s vs' out' h g l a)
    (whole-few r vs p bs out s vs' out' h g l a)

-- ---- one read

module _ (r : Room) (vs : List ℤ) (p : Port) (input out : List ℕ) where
  pub read_nothing : AnswersRead r vs p input out (record { port = p; came = Err Nothing }) vs out
  read_nothing = nothing refl refl refl refl

  module _ (n : ℕ) (a : Answered) (vs' : List ℤ) (out' : List ℕ) (h : Answers r vs p (take n input) out a vs' out') where
    -- the replies lie within `out`
    pub sent_within : a.sent ≤ length out'
    sent_within = go h
      where
        go : Answers r vs p (take n input) out a vs' out' → a.sent ≤ length out'
        go (answers replies room values seen few) = omega (arith, wrote_length replies)

    pub read_written : (n ≡ 0 → ⊥) → n ≤ length input → AnswersRead r vs p input out (record { port = a.port; came = Ok n }) vs' out'
    unfolding bytes_of
    read_written z l = something a.sent (omega arith) l h

    pub read_unwritten : (n ≡ 0 → ⊥) → n ≤ length input → AnswersRead r vs p input out (record { port = a.port; came = Err (Unwritten n) }) vs' out'
    unfolding bytes_of
    read_unwritten z l = something a.sent (omega arith) l h

pub ruleset one_read = (part-counts, read_nothing, sent_within, read_written, read_unwritten)
