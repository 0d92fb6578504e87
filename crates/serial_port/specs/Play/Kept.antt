-- What every line keeps, a byte sequence keeps; and a byte sequence is at least as long as what it brings about.
use Rattle.std.specs.Prelude.{◌≡◌, Bool, ℕ, suc, ◌+◌, ◌≤◌, ℤ, length}
use Rattle.std.proofs.Math.Path.{refl}
use Rattle.std.proofs.Math.Bool.{true, false}
use mathlib.Core.List.{List, [], ◌∷◌}
use Rattle.std.proofs.Common.{arith}
use Rattle.std.proofs.Math.Dec.{eqb}
use Rattle.text.specs.Cut.{has, before}
use Rattle.values.specs.Room.{Room}
use Rattle.syntax.specs.Shape.{line_limit}
use Rattle.line.specs.Answer.{answer}
use Rattle.serial_port.specs.Server.{Server, control_space}
use Rattle.serial_port.specs.Server.Laws.{line_state, overrun_state}
use Rattle.serial_port.specs.Port.{View, held, over, fresh, claim, join}
use Rattle.serial_port.specs.Port.Laws.{fresh-none, fresh-few, claim-join, claim-join_length}
use Rattle.serial_port.specs.Call.{step, finish, replied, waiting}
use Rattle.serial_port.specs.Call.Laws.{step-finishes, step_waits}
use Rattle.serial_port.specs.Play.{ended, reply_first, feed}
use Rattle.serial_port.specs.Play.Feed.{finished, feed-nothing, feed-end, feed-byte}

-- every line keeps what is good of the state: one of at most 64 bytes, and a longer one
pub record Keeps {S : Type 0} (server : Server S) (Good : S → Type 0) : Type 0 where
  pub line : (s : S) (l : List ℕ) → length l ≤ line_limit → Good s → Good (server.line s l).state
  pub overrun : (s : S) → Good s → Good (server.overrun s).state

-- no line lowers the potential Φ by more than its bytes and its 0D; a longer one, of which no byte is held, by no more than its 0D
pub record Lowers {S : Type 0} (server : Server S) (Good : S → Type 0) (Φ : S → ℕ) : Type 0 where
  pub line : (s : S) (l : List ℕ) → length l ≤ line_limit → Good s → Φ s ≤ length l + 1 + Φ (server.line s l).state
  pub overrun : (s : S) → Good s → Φ s ≤ 1 + Φ (server.overrun s).state

-- ControlSpace, by its answers: an overrun line changes nothing
module _ (r : Room) (Good : List ℤ → Type 0) where
  pub answers_keep : ((vs : List ℤ) (l : List ℕ) → length l ≤ line_limit → Good vs → Good (answer r vs l).values) → Keeps (control_space r) Good
  answers_keep h = record { line = λ vs l k g. rw (line_state r vs l) (h vs l k g); overrun = λ vs g. rw (overrun_state r vs) g }

  pub answers_lower : (Φ : List ℤ → ℕ)
      → ((vs : List ℤ) (l : List ℕ) → length l ≤ line_limit → Good vs → Φ vs ≤ length l + 1 + Φ (answer r vs l).values)
      → Lowers (control_space r) Good Φ
  answers_lower Φ h =
      record { line = λ vs l k g. rw (line_state r vs l) (h vs l k g); overrun = λ vs g. rw (overrun_state r vs) (omega arith) }

module _ {S : Type 0} (server : Server S) (Good : S → Type 0) (keeps : Keeps server Good) where
  pub finish-keeps : (s : S) (v : View) → claim v ≤ line_limit → Good s → Good (finish server s v).state
  unfolding finish claim
  finish-keeps s (held l) k g = keeps.line s l k g
  finish-keeps s over k g = keeps.overrun s g

  -- a call keeps it
  pub step_keeps : (v : View) (s : S) (bs : List ℕ) → Good s → Good (step server s v bs).state
  unfolding replied waiting
  step_keeps v s bs g = go (has 0x0D bs) refl
    where
      go : (t : Bool) → has 0x0D bs ≡ t → Good (step server s v bs).state
      go true e = rw (step-finishes server s v bs e) (finish-keeps s (join v (before 0x0D bs)) (claim-join v (before 0x0D bs)) g)
      go false e = rw (step_waits server s v bs e) g

  -- and so does a whole byte sequence
  pub feed-keeps : (v : View) (s : S) (bs : List ℕ) → claim v ≤ line_limit → Good s → Good (feed server v s bs).state
  unfolding finished reply_first
  feed-keeps v s [] k g = rw (feed-nothing server v s) (unfold ended in g)
  feed-keeps v s (b ∷ bs) k g =
      go (eqb b 0x0D) refl (feed-keeps fresh (finish server s v).state bs fresh-few (finish-keeps s v k g))
      (feed-keeps (join v (b ∷ [])) s bs (claim-join v (b ∷ [])) g)
    where
      go : (t : Bool) → eqb b 0x0D ≡ t → Good (feed server fresh (finish server s v).state bs).state
          → Good (feed server (join v (b ∷ [])) s bs).state → Good (feed server v s (b ∷ bs)).state
      go true e a c = rw (feed-end server v s b bs e) a
      go false e a c = rw (feed-byte server v s b bs e) c

  -- a potential that no line lowers by more than its bytes and its 0D: no byte sequence lowers it by more than its bytes
  module _ (Φ : S → ℕ) (lowers : Lowers server Good Φ) where
    finish-lowers : (s : S) (v : View) → claim v ≤ line_limit → Good s → Φ s ≤ claim v + 1 + Φ (finish server s v).state
    unfolding finish claim
    finish-lowers s (held l) k g = lowers.line s l k g
    finish-lowers s over k g = lowers.overrun s g

    feed-lowers : (v : View) (s : S) (bs : List ℕ) → claim v ≤ line_limit → Good s
        → Φ s ≤ claim v + length bs + Φ (feed server v s bs).state
    unfolding finished reply_first
    feed-lowers v s [] k g = rw (feed-nothing server v s) (unfold ended in omega arith)
    feed-lowers v s (b ∷ bs) k g =
        go (eqb b 0x0D) refl (feed-lowers fresh (finish server s v).state bs fresh-few (finish-keeps s v k g))
        (feed-lowers (join v (b ∷ [])) s bs (claim-join v (b ∷ [])) g)
      where
        line : S
        line = (finish server s v).state

        go : (t : Bool) → eqb b 0x0D ≡ t → Φ line ≤ claim fresh + length bs + Φ (feed server fresh line bs).state
            → Φ s ≤ claim (join v (b ∷ [])) + length bs + Φ (feed server (join v (b ∷ [])) s bs).state
            → Φ s ≤ claim v + suc (length bs) + Φ (feed server v s (b ∷ bs)).state
        go true e a c = rw (feed-end server v s b bs e) (omega (arith, fresh-none, finish-lowers s v k g))
        go false e a c = rw (feed-byte server v s b bs e) (omega (arith, claim-join_length v (b ∷ [])))

    pub bound : (s : S) (bs : List ℕ) → Good s → Φ s ≤ length bs + Φ (feed server fresh s bs).state
    bound s bs g = omega (arith, fresh-none, feed-lowers fresh s bs fresh-few g)
