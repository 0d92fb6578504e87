-- Demand 3: the restore list fulfils the wish, and no byte sequence that does is shorter; the size call tells its bytes and lines before it is written.
pub mod Exactly
pub mod Lines
pub mod Pair
pub mod Played
pub mod Testing
use Rattle.std.specs.Prelude.{◌≡◌, true, false, ◌↔◌, List, ℕ, ◌≤◌, ◌<◌, length, take, replicate}
use Rattle.text.specs.Byte.{is_byte}
use Rattle.text.specs.Every.{every}
use Rattle.values.specs.Parameters.{parameters}
use Rattle.spelling.specs.Acknowledgement.{ack}
use Rattle.serial_port.specs.Port.{fresh}
use Rattle.serial_port.specs.Refusal.{reply_limit}
use Rattle.serial_port.specs.Play.{play}
use Rattle.wish.specs.Target.{Wish, target, differing}
use Rattle.wish.specs.Listing.{Admitted, Size, Told, restore, size}
use Rattle.restore.specs.Restored.{Restored}

-- played with a reply buffer of `reply_rooms n` bytes for call n, it leaves chosen modules as wanted and every other parameter as it was. Nothing else writes the values while it is
-- played: the list is for a room where no knob of a wall panel turns meanwhile
pub record Fulfils (w : Wish) (reply_rooms : ℕ → ℕ) (bs : List ℕ) : Type 0 where
  pub served : (play w.room reply_rooms w.present bs).refused ≡ false
  pub reached : (play w.room reply_rooms w.present bs).state ≡ target w

-- a shortest one of all byte sequences that fulfil the wish; no list with other numbers in it is shorter either
pub record Shortest (w : Wish) (reply_rooms : ℕ → ℕ) (list : List ℕ) : Type 0 where
  pub bytes : every is_byte list ≡ true
  pub fulfils : Fulfils w reply_rooms list
  pub least : (bs : List ℕ) → Fulfils w reply_rooms bs → length list ≤ length bs

-- the bytes told are a shortest list, at the start of the buffer; played, it is answered by as many ACKs as lines are told and by nothing else,
-- and leaves the port fresh; the lines are as many as the parameters of chosen modules that differ
pub record Listed (w : Wish) (reply_rooms : ℕ → ℕ) (room : ℕ) (a : Told) : Type 0 where
  pub shortest : Shortest w reply_rooms (take a.bytes a.buffer)
  pub bytes : a.bytes ≡ length (take a.bytes a.buffer)
  pub fits : a.bytes ≤ room
  pub acknowledged : (play w.room reply_rooms w.present (take a.bytes a.buffer)).replies ≡ replicate a.lines ack
  pub ends : (play w.room reply_rooms w.present (take a.bytes a.buffer)).port ≡ fresh
  pub lines : a.lines ≡ differing w.selection (parameters w.room.table) w.present w.wanted

-- the answer of the size call: the bytes of a shortest list, and the lines as many as the parameters of chosen modules that differ; or 7 where no byte sequence fulfils the wish
pub data SizeDemanded (w : Wish) (reply_rooms : ℕ → ℕ) (s : Size) : Type 0 where
  within : s.number ≡ 0 → (list : List ℕ) → Shortest w reply_rooms list → s.bytes ≡ length list
      → s.lines ≡ differing w.selection (parameters w.room.table) w.present w.wanted → SizeDemanded w reply_rooms s
  beyond : s.number ≡ 7 → ((bs : List ℕ) → Fulfils w reply_rooms bs → ⊥) → SizeDemanded w reply_rooms s

-- the answer of a writing call with a list buffer of `room` bytes: accepted, 7 where no byte sequence fulfils the wish,
-- or 8 where the shortest that does is longer than the buffer
pub data Demanded (w : Wish) (reply_rooms : ℕ → ℕ) (room : ℕ) (a : Told) : Type 0 where
  accepted : a.number ≡ 0 → Listed w reply_rooms room a → Demanded w reply_rooms room a
  unreachable : a.number ≡ 7 → ((bs : List ℕ) → Fulfils w reply_rooms bs → ⊥) → Demanded w reply_rooms room a
  no_room : a.number ≡ 8 → (list : List ℕ) → Shortest w reply_rooms list → room < length list → Demanded w reply_rooms room a

-- demand 3 of the pair, where the same is given to both and the writing call has a list buffer of `room` bytes. Where the size call was accepted, the writing call gives 8 exactly when its
-- buffer is shorter than the bytes told, and else writes exactly the bytes and lines told; where it was refused, the writing call refuses with the same number
pub record Paired (s : Size) (room : ℕ) (a : Told) : Type 0 where
  pub eight : s.number ≡ 0 → (a.number ≡ 8) ↔ (room < s.bytes)
  pub writes : s.number ≡ 0 → s.bytes ≤ room → (a.number ≡ 0) × (a.bytes ≡ s.bytes) × (a.lines ≡ s.lines)
  pub refuses : (s.number ≡ 0 → ⊥) → a.number ≡ s.number

-- demand 3 of the size call, where 1, 2, 5 and 6 do not refuse it, played with reply buffers of 64 bytes or more
abbrev pub SizeDemand : Wish → Size → Type 0
SizeDemand w s = Admitted w → (reply_rooms : ℕ → ℕ) → ((call : ℕ) → reply_limit ≤ reply_rooms call) → SizeDemanded w reply_rooms s

-- demand 3, of a writing call that 1, 2, 5 and 6 do not refuse, played with reply buffers of 64 bytes or more
abbrev pub DemandThree : Wish → (room : ℕ) → Told → Type 0
DemandThree w room a = Admitted w → (reply_rooms : ℕ → ℕ) → ((call : ℕ) → reply_limit ≤ reply_rooms call) → Demanded w reply_rooms room a

-- what the answer r of the size call tells
unfoldable pub size_told : Restored → Size
size_told r = record { number = r.number; bytes = r.bytes; lines = r.lines }

-- what the answer r of the writing call tells, with the list buffer as it is afterwards
unfoldable pub tells : Restored → (buffer : List ℕ) → Told
tells r buffer = record { number = r.number; bytes = r.bytes; lines = r.lines; buffer = buffer }

-- the promise of the size call: what it tells, and what that is
pub data Sizes (w : Wish) (r : Restored) : Type 0 where
  sizes : (told : size_told r ≡ size w) → (demand : SizeDemand w (size_told r)) → Sizes w r

-- the promise of the writing call: what it tells and writes, demand 3, and the pair
pub data Restores (w : Wish) (buffer : List ℕ) (r : Restored) (buffer' : List ℕ) : Type 0 where
  restores : (told : tells r buffer' ≡ restore w buffer) → (demand : DemandThree w (length buffer) (tells r buffer'))
      → (pair : Paired (size w) (length buffer) (tells r buffer')) → Restores w buffer r buffer'
