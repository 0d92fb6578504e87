-- Feeding byte by byte: up to the first 0D of a sequence, sequences cut anywhere, and lines one after the other.
use Rattle.std.specs.Prelude.{◌≡◌, Bool, ℕ, suc, ◌≤◌, ◌<◌, length, take}
use Rattle.std.proofs.Math.Path.{refl}
use Rattle.std.proofs.Common.{sym, ◌∙◌, ap, true≢false}
use Rattle.std.proofs.Math.Bool.{true, false}
use mathlib.Core.List.{List, [], ◌∷◌, ◌++◌}
use Rattle.std.proofs.Math.Dec.{eqb}
use Rattle.text.specs.Cut.{has, index_of, before, after}
use Rattle.text.specs.Cut.Found.{has_here, has-behind}
use Rattle.text.specs.Cut.Lacking.{has-not, before-lacks, parts_joined, through-first}
use Rattle.syntax.specs.Shape.{line_limit}
use Rattle.serial_port.specs.Server.{Reply, Server}
use Rattle.serial_port.specs.Port.{View, fresh, claim, join}
use Rattle.serial_port.specs.Port.Laws.{fresh-few, join-nothing, join-join, join-fresh, join-overruns, claim-join}
use Rattle.serial_port.specs.Call.{finish}
use Rattle.serial_port.specs.Play.{Played, ended, reply_first, feed}

-- a finished line: its reply, and the rest from a fresh port
unfoldable pub finished : {S : Type 0} → Server S → Reply S → List ℕ → Played S
finished server a rest = reply_first a.reply (feed server fresh a.state rest)

-- what follows on a first part that was played
unfoldable pub followed : {S : Type 0} → Played S → Played S → Played S
followed p q = record { replies = p.replies ++ q.replies; state = q.state; port = q.port; refused = q.refused }

module _ {S : Type 0} (server : Server S) where
  pub feed-end : (v : View) (s : S) (b : ℕ) (bs : List ℕ) → eqb b 0x0D ≡ true
      → feed server v s (b ∷ bs) ≡ finished server (finish server s v) bs
  unfolding feed finished
  feed-end v s b bs h = rw h refl

  pub feed-byte : (v : View) (s : S) (b : ℕ) (bs : List ℕ) → eqb b 0x0D ≡ false
      → feed server v s (b ∷ bs) ≡ feed server (join v (b ∷ [])) s bs
  unfolding feed
  feed-byte v s b bs h = rw h refl

  pub feed-nothing : (v : View) (s : S) → feed server v s [] ≡ ended v s
  unfolding feed
  feed-nothing v s = refl

  -- without 0D, all bytes are joined to the held line
  pub feed-waits : (v : View) (s : S) (bs : List ℕ) → claim v ≤ line_limit → has 0x0D bs ≡ false
      → feed server v s bs ≡ ended (join v bs) s
  feed-waits v s [] k h = rw (join-nothing v k) (feed-nothing v s)
  feed-waits v s (b ∷ bs) k h = go (eqb b 0x0D) refl (λ h. feed-waits (join v (b ∷ [])) s bs (claim-join v (b ∷ [])) h)
    where
      w : View
      w = join v (b ∷ [])

      go : (t : Bool) → eqb b 0x0D ≡ t → (has 0x0D bs ≡ false → feed server w s bs ≡ ended (join w bs) s)
          → feed server v s (b ∷ bs) ≡ ended (join v (b ∷ bs)) s
      go true e ih = absurd (true≢false (sym (has_here 0x0D b bs e) ∙ h))
      go false e ih = feed-byte v s b bs e ∙ ih (sym (has-behind 0x0D b bs e) ∙ h) ∙ ap (λ w. ended w s) (join-join v (b ∷ []) bs)

  -- cut anywhere: what follows is fed to the port and the state that the first part leaves
  abbrev Cut : View → S → List ℕ → List ℕ → Type 0
  Cut v s a b = feed server v s (a ++ b) ≡ followed (feed server v s a) (feed server (feed server v s a).port (feed server v s a).state b)

  pub feed-append : (v : View) (s : S) (a b : List ℕ)
      → feed server v s (a ++ b) ≡ followed (feed server v s a) (feed server (feed server v s a).port (feed server v s a).state b)
  unfolding feed followed ended reply_first
  feed-append v s [] b = refl
  feed-append v s (x ∷ a) b = go (eqb x 0x0D) refl (feed-append fresh (finish server s v).state a b) (feed-append (join v (x ∷ [])) s a b)
    where
      go : (t : Bool) → eqb x 0x0D ≡ t → Cut fresh (finish server s v).state a b → Cut (join v (x ∷ [])) s a b → Cut v s (x ∷ a) b
      go true e f g = rw (e, f) refl
      go false e f g = rw e g

  -- no call of it is refused
  pub feed-serves : (v : View) (s : S) (bs : List ℕ) → (feed server v s bs).refused ≡ false
  unfolding feed ended finished reply_first
  feed-serves v s [] = refl
  feed-serves v s (b ∷ bs) = go (eqb b 0x0D) refl (feed-serves fresh (finish server s v).state bs) (feed-serves (join v (b ∷ [])) s bs)
    where
      go : (t : Bool) → eqb b 0x0D ≡ t → (feed server fresh (finish server s v).state bs).refused ≡ false
          → (feed server (join v (b ∷ [])) s bs).refused ≡ false → (feed server v s (b ∷ bs)).refused ≡ false
      go true e a c = rw (feed-end v s b bs e) a
      go false e a c = rw (feed-byte v s b bs e) c

  -- bytes without 0D, and an 0D: the bytes are joined to the held line, which is answered, and the rest is fed to a fresh port
  pub feed-collected : (v : View) (s : S) (l rest : List ℕ) → claim v ≤ line_limit → has 0x0D l ≡ false
      → feed server v s (l ++ 0x0D ∷ rest) ≡ finished server (finish server s (join v l)) rest
  unfolding followed ended finished reply_first
  feed-collected v s l rest k h =
      feed-append v s l (0x0D ∷ rest) ∙ rw (feed-waits v s l k h) (feed-end (join v l) s 0x0D rest refl)

  -- so a sequence that has an 0D is cut at the first, and the part through that 0D is a line by itself
  module _ (v : View) (s : S) (bs : List ℕ) (k : claim v ≤ line_limit) (h : has 0x0D bs ≡ true) where
    first_line_lem : (rest : List ℕ) → feed server v s (before 0x0D bs ++ 0x0D ∷ rest) ≡ finished server (finish server s (join v (before 0x0D bs))) rest
    first_line_lem rest = feed-collected v s (before 0x0D bs) rest k (has-not 0x0D (before 0x0D bs) (before-lacks 0x0D bs))

    pub feed-finishes : feed server v s bs ≡ finished server (finish server s (join v (before 0x0D bs))) (after 0x0D bs)
    feed-finishes = ap (feed server v s) (parts_joined 0x0D bs h) ∙ first_line_lem (after 0x0D bs)

    pub feed-first : feed server v s (take (suc (index_of 0x0D bs)) bs) ≡ finished server (finish server s (join v (before 0x0D bs))) []
    feed-first = rw (through-first 0x0D bs h) (first_line_lem [])

  -- a line of at most 64 bytes: its reply, and the rest from the state after it
  pub feed-line : (s : S) (l rest : List ℕ) → length l ≤ line_limit → has 0x0D l ≡ false
      → feed server fresh s (l ++ 0x0D ∷ rest) ≡ finished server (server.line s l) rest
  unfolding finish
  feed-line s l rest k h = feed-collected fresh s l rest fresh-few h ∙ rw (join-fresh l k) refl

  -- a longer line: the one reply to it, and a fresh port for what follows
  pub feed-overrun : (s : S) (l rest : List ℕ) → line_limit < length l → has 0x0D l ≡ false
      → feed server fresh s (l ++ 0x0D ∷ rest) ≡ finished server (server.overrun s) rest
  unfolding finish
  feed-overrun s l rest k h = feed-collected fresh s l rest fresh-few h ∙ rw (join-overruns l k) refl
