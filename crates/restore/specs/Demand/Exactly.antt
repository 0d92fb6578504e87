-- When exactly the restore calls are accepted, and refuse with 7 and with 8.
use Rattle.std.specs.Prelude.{◌≡◌, ◌↔◌, List, ℕ, ◌≤◌, ◌<◌, length, take}
use Rattle.std.proofs.Common.{arith}
use Rattle.wish.specs.Target.{Wish}
use Rattle.wish.specs.Listing.{Size, Told}
use Rattle.restore.specs.Demand.{Fulfils, Shortest, SizeDemanded, within, beyond, Demanded, accepted, unreachable, no_room}

-- a shortest list that fits the buffer, and one that does not
pub record Fitting (w : Wish) (reply_rooms : ℕ → ℕ) (room : ℕ) : Type 0 where
  pub list : List ℕ
  pub shortest : Shortest w reply_rooms list
  pub fits : length list ≤ room

pub record Long (w : Wish) (reply_rooms : ℕ → ℕ) (room : ℕ) : Type 0 where
  pub list : List ℕ
  pub shortest : Shortest w reply_rooms list
  pub long : room < length list

module _ (w : Wish) (reply_rooms : ℕ → ℕ) (room : ℕ) (a : Told) where
  -- 7 exactly when no byte sequence fulfils the wish
  pub exactly_seven : Demanded w reply_rooms room a → (a.number ≡ 7) ↔ ((bs : List ℕ) → Fulfils w reply_rooms bs → ⊥)
  exactly_seven (accepted e l) = ((λ n. absurd (omega arith)), (λ none. absurd (none (take a.bytes a.buffer) l.shortest.fulfils)))
  exactly_seven (unreachable e none) = ((λ n. none), (λ none. e))
  exactly_seven (no_room e list s n) = ((λ n. absurd (omega arith)), (λ none. absurd (none list s.fulfils)))

  -- 8 exactly when one does, and the shortest is longer than the buffer
  pub exactly_eight : Demanded w reply_rooms room a → (a.number ≡ 8) ↔ Long w reply_rooms room
  exactly_eight (accepted e l) = (
    (λ n. absurd (omega arith)),
    (λ o. absurd (omega (arith, o.shortest.least (take a.bytes a.buffer) l.shortest.fulfils, l.bytes, l.fits, o.long))),
  )
  exactly_eight (unreachable e none) = ((λ n. absurd (omega arith)), (λ o. absurd (none o.list o.shortest.fulfils)))
  exactly_eight (no_room e list s n) = ((λ m. record { list = list; shortest = s; long = n }), (λ o. e))

  -- accepted exactly when one does, and the shortest fits the buffer
  pub exactly_accepted : Demanded w reply_rooms room a → (a.number ≡ 0) ↔ Fitting w reply_rooms room
  exactly_accepted (accepted e l) =
      ((λ n. record { list = take a.bytes a.buffer; shortest = l.shortest; fits = omega (arith, l.bytes, l.fits) }), (λ o. e))
  exactly_accepted (unreachable e none) = ((λ n. absurd (omega arith)), (λ o. absurd (none o.list o.shortest.fulfils)))
  exactly_accepted (no_room e list s n) = ((λ m. absurd (omega arith)), (λ o. absurd (omega (arith, s.least o.list o.shortest.fulfils, o.fits))))

-- of the size call, which has no buffer
module _ (w : Wish) (reply_rooms : ℕ → ℕ) (s : Size) where
  -- 7 exactly when no byte sequence fulfils the wish
  pub size-exactly_seven : SizeDemanded w reply_rooms s → (s.number ≡ 7) ↔ ((bs : List ℕ) → Fulfils w reply_rooms bs → ⊥)
  size-exactly_seven (within e list shortest b l) = ((λ n. absurd (omega arith)), (λ none. absurd (none list shortest.fulfils)))
  size-exactly_seven (beyond e none) = ((λ n. none), (λ none. e))

  -- none that does is shorter than the bytes told
  pub size-least : SizeDemanded w reply_rooms s → s.number ≡ 0 → (bs : List ℕ) → Fulfils w reply_rooms bs → s.bytes ≤ length bs
  size-least (within e list shortest b l) z bs f = omega (arith, shortest.least bs f)
  size-least (beyond e none) z bs f = absurd (none bs f)
