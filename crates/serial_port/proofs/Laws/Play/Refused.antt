-- A play in which a call is refused tells so.
use Rattle.std.specs.Prelude.{◌≡◌, Bool, List, ◌∷◌, ℤ, length, drop}
use Rattle.std.proofs.Math.Path.{refl}
use Rattle.std.proofs.Common.{sym, arith}
use Rattle.std.proofs.Math.Bool.{true, false}
use Prim.Native.Nat.{ℕ, zero, suc, ◌<◌}
use Rattle.text.specs.Cut.{has}
use Rattle.values.specs.Room.{Room}
use Rattle.serial_port.specs.Server.{Server, control_space}
use Rattle.serial_port.specs.Port.{View, fresh, claim}
use Rattle.serial_port.specs.Call.{step}
use Rattle.serial_port.specs.Refusal.{reply_limit}
use Rattle.serial_port.specs.Refusal.Telling.{none_buffer}
use Rattle.serial_port.specs.Play.{Played, stopped, reply_first, first, play_from, refusal, play}

-- whatever the calls are, and from whatever port and state on, where there is a byte to play
module _ {S : Type 0} (server : Server S) (refusal : ℕ → S → View → ℕ) (call : ℕ) (v : View) (s : S) (b : ℕ) (bs : List ℕ) where
  -- the calls after the first, at most `left` of them
  abbrev rest : (left : ℕ) → Played S
  rest left =
      let x = step server s v (b ∷ bs) in
      play_from server refusal (suc call) left x.port x.state (drop x.consumed (b ∷ bs))

  -- the first call is refused with a number other than 0
  pub first-refused : (left : ℕ) → (refusal call s v ≡ 0 → ⊥) → (play_from server refusal call left v s (b ∷ bs)).refused ≡ true
  unfolding play_from first stopped
  first-refused zero h = refl
  first-refused (suc left) h = go (refusal call s v) h
    where
      go : (n : ℕ) → (n ≡ 0 → ⊥) → (first n v s (has 0x0D (b ∷ bs)) (step server s v (b ∷ bs)) (rest left)).refused ≡ true
      go zero h = absurd (h refl)
      go (suc n) h = refl

  -- the first call is served: whether one is refused is told by those after it
  pub later_refused : (left : ℕ) → refusal call s v ≡ 0 → (play_from server refusal call (suc left) v s (b ∷ bs)).refused ≡ (rest left).refused
  unfolding play_from first reply_first
  later_refused left e = go (has 0x0D (b ∷ bs)) refl
    where
      go : (t : Bool) → has 0x0D (b ∷ bs) ≡ t → (play_from server refusal call (suc left) v s (b ∷ bs)).refused ≡ (rest left).refused
      go true h = rw (e, h) refl
      go false h = rw (e, h) refl

module _ (r : Room) (reply_rooms : ℕ → ℕ) (vs : List ℤ) (b : ℕ) (bs : List ℕ) where
  -- of a play on a table: its first call is refused with a number other than 0
  pub play-refused : (refusal r reply_rooms 0 vs fresh ≡ 0 → ⊥) → (play r reply_rooms vs (b ∷ bs)).refused ≡ true
  unfolding play
  play-refused h = first-refused (control_space r) (refusal r reply_rooms) 0 fresh vs b bs (length (b ∷ bs)) h

  -- as where its reply buffer has under 64 bytes, whatever the table and the values are
  pub short_refused : reply_rooms 0 < reply_limit → (play r reply_rooms vs (b ∷ bs)).refused ≡ true
  unfolding refusal reply_limit
  short_refused h = play-refused (λ e. omega (arith, none_buffer r vs (reply_rooms 0) (claim fresh) 0 (sym e) refl))
