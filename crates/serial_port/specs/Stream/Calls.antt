-- One call of a stream: what it consumes, fed byte by byte, does what the call does.
use Rattle.std.specs.Prelude.{◌≡◌, Bool, ℕ, ◌≤◌, take}
use Rattle.std.proofs.Math.Path.{refl}
use Rattle.std.proofs.Common.{sym, ◌∙◌, ap}
use Rattle.std.proofs.Math.Bool.{true, false}
use mathlib.Core.List.{List, [], ◌∷◌, ◌++◌, append-nil, append_assoc}
use Rattle.std.proofs.Math.Seq.{take-length}
use Rattle.text.specs.Cut.{has, before}
use Rattle.syntax.specs.Shape.{line_limit}
use Rattle.serial_port.specs.Server.{Server}
use Rattle.serial_port.specs.Port.{View, claim, join}
use Rattle.serial_port.specs.Call.{Step, step, finish, replied, waiting}
use Rattle.serial_port.specs.Call.Laws.{step-finishes, step_waits}
use Rattle.serial_port.specs.Play.{Played, ended, reply_first, feed}
use Rattle.serial_port.specs.Play.Feed.{finished, feed-nothing, feed-waits, feed-first}
use Rattle.serial_port.specs.Stream.{joined}

pub joined-append : (rs ss : List (List ℕ)) → joined (rs ++ ss) ≡ joined rs ++ joined ss
unfolding joined
joined-append [] ss = refl
joined-append (r ∷ rs) ss = ap (λ l. r ++ l) (joined-append rs ss) ∙ sym (append_assoc r (joined rs) (joined ss))

-- a play gives the replies, the state and the port of one step
pub record Once {S : Type 0} (p : Played S) (x : Step S) : Type 0 where
  pub replies : joined p.replies ≡ x.reply
  pub state : p.state ≡ x.state
  pub port : p.port ≡ x.port

module _ {S : Type 0} (server : Server S) where
  pub feed-once : (v : View) (s : S) (bs : List ℕ) → claim v ≤ line_limit
      → Once (feed server v s (take (step server s v bs).consumed bs)) (step server s v bs)
  unfolding finished replied waiting reply_first ended joined
  feed-once v s bs k = go (has 0x0D bs) refl
    where
      go : (t : Bool) → has 0x0D bs ≡ t → Once (feed server v s (take (step server s v bs).consumed bs)) (step server s v bs)
      go true e =
          rw (step-finishes server s v bs e, feed-first server v s bs k e, feed-nothing)
          (record { replies = append-nil (finish server s (join v (before 0x0D bs))).reply; state = refl; port = refl })
      go false e =
          rw (step_waits server s v bs e, take-length bs, feed-waits server v s bs k e)
          (record { replies = refl; state = refl; port = refl })
