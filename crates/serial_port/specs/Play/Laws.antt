-- Playing is feeding byte by byte: over a sound table and right values no call of it is refused.
use Rattle.std.specs.Prelude.{◌≡◌, Bool, true, ℤ, length}
use Rattle.std.proofs.Math.Path.{refl, sym}
use Rattle.std.proofs.Common.{◌∙◌, ap, arith, length-drop}
use Rattle.std.proofs.Math.Bool.{false}
use mathlib.Core.List.{List, [], ◌∷◌, ◌++◌}
use Prim.Native.Nat.{ℕ, zero, suc, ◌≤◌, ◌<◌}
use Rattle.std.proofs.Math.Seq.{drop-length}
use Rattle.text.specs.Cut.{has, before, after}
use Rattle.text.specs.Cut.Found.{after-drop}
use Rattle.syntax.specs.Shape.{line_limit}
use Rattle.spelling.specs.Acknowledgement.{nak}
use Rattle.line.specs.Answer.Laws.{values_stay_sound}
use Rattle.room.specs.Table.{sound}
use Rattle.values.specs.Room.{Room}
use Rattle.values.specs.Values.{values_sound}
use Rattle.serial_port.specs.Server.{Server, control_space}
use Rattle.serial_port.specs.Server.Laws.{overrun_reply, overrun_state}
use Rattle.serial_port.specs.Port.{View, fresh, claim, join}
use Rattle.serial_port.specs.Port.Laws.{fresh-few, claim-join}
use Rattle.serial_port.specs.Call.{finish, replied, waiting}
use Rattle.serial_port.specs.Refusal.{reply_limit}
use Rattle.serial_port.specs.Call.Laws.{step-finishes, step_waits}
use Rattle.serial_port.specs.Refusal.Laws.{accepted}
use Rattle.serial_port.specs.Play.{reply_first, first, play_from, refusal, play, feed}
use Rattle.serial_port.specs.Play.Feed.{finished, feed-waits, feed-finishes, feed-overrun, feed-serves}
use Rattle.serial_port.specs.Play.Kept.{Keeps, answers_keep, finish-keeps}

after-shorter : (b : ℕ) (bs : List ℕ) → length (after 0x0D (b ∷ bs)) ≤ length bs
after-shorter b bs = simp (after-drop, length-drop) (omega arith)

-- where no call is refused while the state is good: playing is feeding
module _ {S : Type 0} (server : Server S) (Good : S → Type 0) (keeps : Keeps server Good)
    (refusal : ℕ → S → View → ℕ) (serves : (call : ℕ) (s : S) (v : View) → claim v ≤ line_limit → Good s → refusal call s v ≡ 0) where
  -- a first call that finishes a line, and one that does not
  call-finishes : (call left : ℕ) (v : View) (s : S) (b : ℕ) (bs : List ℕ) → claim v ≤ line_limit → Good s → has 0x0D (b ∷ bs) ≡ true
      → play_from server refusal call (suc left) v s (b ∷ bs)
      ≡ reply_first (finish server s (join v (before 0x0D (b ∷ bs)))).reply
      (play_from server refusal (suc call) left fresh (finish server s (join v (before 0x0D (b ∷ bs)))).state (after 0x0D (b ∷ bs)))
  unfolding play_from first replied
  call-finishes call left v s b bs k g e = rw (serves call s v k g, e, step-finishes server s v (b ∷ bs) e, after-drop 0x0D (b ∷ bs)) refl

  call-waits : (call left : ℕ) (v : View) (s : S) (b : ℕ) (bs : List ℕ) → claim v ≤ line_limit → Good s → has 0x0D (b ∷ bs) ≡ false
      → play_from server refusal call (suc left) v s (b ∷ bs) ≡ play_from server refusal (suc call) left (join v (b ∷ bs)) s []
  unfolding play_from first waiting
  call-waits call left v s b bs k g e = rw (serves call s v k g, e, step_waits server s v (b ∷ bs) e, drop-length bs) refl

  abbrev Feeds : (call left : ℕ) → Type 0
  Feeds call left =
      (v : View) (s : S) (bs : List ℕ) → length bs ≤ left → claim v ≤ line_limit → Good s
      → play_from server refusal call left v s bs ≡ feed server v s bs

  pub play-feed : (call left : ℕ) (v : View) (s : S) (bs : List ℕ) → length bs ≤ left → claim v ≤ line_limit → Good s
      → play_from server refusal call left v s bs ≡ feed server v s bs
  unfolding play_from feed
  play-feed call zero v s [] n k g = refl
  play-feed call zero v s (b ∷ bs) n k g = absurd (omega arith)
  play-feed call (suc left) v s [] n k g = refl
  play-feed call (suc left) v s (b ∷ bs) n k g = go (has 0x0D (b ∷ bs)) refl (play-feed (suc call) left)
    where
      line : View
      line = join v (before 0x0D (b ∷ bs))

      go : (t : Bool) → has 0x0D (b ∷ bs) ≡ t → Feeds (suc call) left → play_from server refusal call (suc left) v s (b ∷ bs) ≡ feed server v s (b ∷ bs)
      go true e ih =
          call-finishes call left v s b bs k g e
          ∙ ap (reply_first (finish server s line).reply)
          (ih fresh (finish server s line).state (after 0x0D (b ∷ bs)) (omega (arith, after-shorter b bs))
          fresh-few (finish-keeps server Good keeps s line (claim-join v (before 0x0D (b ∷ bs))) g))
          ∙ sym (unfold finished in feed-finishes server v s (b ∷ bs) k e)
      go false e ih =
          call-waits call left v s b bs k g e ∙ ih (join v (b ∷ bs)) s [] (omega arith) (claim-join v (b ∷ bs)) g
          ∙ sym (feed-waits server v s (b ∷ bs) k e)

-- ---- playing on a table

-- the values are right in the room r
abbrev pub Right : Room → List ℤ → Type 0
Right r vs = values_sound r vs ≡ true

pub keeps_right : (r : Room) → sound r.table ≡ true → Keeps (control_space r) (Right r)
keeps_right r s = answers_keep r (Right r) (λ vs l n c. values_stay_sound r vs l s c)

-- over a sound table and right values no call is refused, and playing is feeding byte by byte
module _ (r : Room) (is-sound : sound r.table ≡ true) (reply_rooms : ℕ → ℕ) (enough : (call : ℕ) → reply_limit ≤ reply_rooms call) where
  serves : (call : ℕ) (vs : List ℤ) (v : View) → claim v ≤ line_limit → Right r vs → refusal r reply_rooms call vs v ≡ 0
  unfolding refusal
  serves call vs v k c = accepted r vs (reply_rooms call) (claim v) is-sound c (enough call) k

  pub plays_from : (v : View) (vs : List ℤ) (bs : List ℕ) → claim v ≤ line_limit → Right r vs
      → play_from (control_space r) (refusal r reply_rooms) 0 (length bs) v vs bs ≡ feed (control_space r) v vs bs
  plays_from v vs bs k c = play-feed (control_space r) (Right r) (keeps_right r is-sound) (refusal r reply_rooms) serves 0 (length bs) v vs bs (omega arith) k c

  pub plays : (vs : List ℤ) (bs : List ℕ) → Right r vs → play r reply_rooms vs bs ≡ feed (control_space r) fresh vs bs
  unfolding play
  plays vs bs c = plays_from fresh vs bs fresh-few c

  -- no call of a play is refused
  pub play-serves : (vs : List ℤ) (bs : List ℕ) → Right r vs → (play r reply_rooms vs bs).refused ≡ false
  play-serves vs bs c = ap (λ p. p.refused) (plays vs bs c) ∙ feed-serves (control_space r) fresh vs bs

-- a line of more than 64 bytes gets one 99, and what follows a fresh port
pub overrun_told : (r : Room) (vs : List ℤ) (l rest : List ℕ) → line_limit < length l → has 0x0D l ≡ false
    → feed (control_space r) fresh vs (l ++ 0x0D ∷ rest) ≡ reply_first (nak 99) (feed (control_space r) fresh vs rest)
unfolding finished
overrun_told r vs l rest k h = feed-overrun (control_space r) vs l rest k h ∙ rw (overrun_reply r vs, overrun_state r vs) refl
