-- Every line is answered by a reply of a byte or more.
use Rattle.std.specs.Prelude.{◌≡◌, true, List, ℕ, ◌≤◌, ℤ, length}
use Rattle.std.proofs.Common.{arith}
use Rattle.room.specs.Table.{sound}
use Rattle.values.specs.Room.{Room}
use Rattle.values.specs.Values.{values_sound}
use Rattle.spelling.specs.Acknowledgement.Laws.{ack-length, nak-length}
use Rattle.line.specs.Answer.{answer}
use Rattle.line.specs.Answer.Laws.{Effect, malformed, refused, told, put, effect}
use Rattle.line.specs.Answer.Replies.{get_answer}

pub reply_some : (r : Room) (vs : List ℤ) (line : List ℕ) → sound r.table ≡ true → values_sound r vs ≡ true → 1 ≤ length (answer r vs line).reply
reply_some r vs line s v = go (effect r vs line s)
  where
    go : Effect r vs line → 1 ≤ length (answer r vs line).reply
    go (malformed k n m e) = rw e (omega (arith, nak-length 99))
    go (refused n m e) = rw e (omega (arith, nak-length n))
    go (told p u m g l e) = omega (arith, (get_answer r vs line s v p u m).ends)
    go (put p x m g l e) = rw e (omega (arith, ack-length))
