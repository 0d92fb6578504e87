-- Laws of what a writer leaves: nothing written, a byte, one text behind another, the buffer's length, and a lent part of the buffer.
use Rattle.std.specs.Prelude.{◌≡◌, refl, List, [], ◌∷◌, ◌++◌, ℕ, suc, ◌+◌, ◌-◌, ◌≤◌, ◌<◌, length, get_or, take, drop, set}
use Rattle.std.proofs.Common.{sym, ◌∙◌, ap, append_assoc, append-nil, add-zero, zero-add, add-one, arith, length-append, length-drop, drop_of_length-le, take-suc, take_all, drop-drop}
use borrow.Author.Rules.{part_to_end}
use borrow.Rule.Slice.PartMut.{put_mid}
use Rattle.std.proofs.lemmas.List.Edits.{sets, sets-eq}
use Rattle.std.proofs.Math.Seq.{length-sets}
use Rattle.text.specs.Written.{Wrote, wrote}

-- ---- the two parts of the promise

module _ {l : List ℕ} {i : ℕ} {s : List ℕ} {j : ℕ} {m : List ℕ} where
  pub past_by : Wrote l i s j m → j ≡ i + length s
  past_by (wrote past bytes) = past

  pub bytes-by : Wrote l i s j m → m ≡ sets l i s
  bytes-by (wrote past bytes) = bytes

-- ---- one text behind another

sets_append : (s t l : List ℕ) (i : ℕ) → sets l i (s ++ t) ≡ sets (sets l i s) (i + length s) t
sets_append [] t l i = rw (add-zero i)
sets_append (a ∷ s) t l i =
    let e : i + suc (length s) ≡ suc i + length s = omega arith in
    rw e (sets_append s t (set l i a) (suc i))

pub wrote_nothing : (l : List ℕ) (i : ℕ) → Wrote l i [] i l
wrote_nothing l i = wrote (sym (add-zero i)) refl

pub wrote_byte : (l : List ℕ) (i b : ℕ) → Wrote l i (b ∷ []) (i + 1) (set l i b)
wrote_byte l i b = wrote refl refl

-- a text, and another from where it ended
pub wrote_join : {l : List ℕ} {i : ℕ} {s : List ℕ} {j : ℕ} {m t : List ℕ} {k : ℕ} {n : List ℕ}
    → Wrote l i s j m → Wrote m j t k n → Wrote l i (s ++ t) k n
wrote_join {l} {i} {s} {j} {m} {t} {k} {n} a b =
    wrote
    (simp length-append (omega (arith, past_by a, past_by b)))
    (bytes-by b ∙ rw (bytes-by a, past_by a) (sym (sets_append s t l i)))

-- a writer leaves the buffer as long as it was
pub wrote_length : {l : List ℕ} {i : ℕ} {s : List ℕ} {j : ℕ} {m : List ℕ} → Wrote l i s j m → length m ≡ length l
wrote_length {l} {i} {s} w = ap length (bytes-by w) ∙ length-sets l i s

-- what stands before the text and behind it is as it was
pub wrote_between : {l : List ℕ} {i : ℕ} {s : List ℕ} {j : ℕ} {m : List ℕ} → Wrote l i s j m → i + length s ≤ length l
    → m ≡ take i l ++ s ++ drop (i + length s) l
wrote_between {l} {i} {s} w h = bytes-by w ∙ sets-eq s l i h

-- a text written at the start of the lent part from `at` on is written into the whole from `at` on
pub lent_wrote : (l part : List ℕ) (at r : ℕ) (text : List ℕ) → at + length text ≤ length l → Wrote (take (length l - at) (drop at l)) 0 text r part
    → Wrote l at text (at + r) (put_mid at (length l - at) l part)
lent_wrote l part at r text h w =
    let d = drop at l in
    let n : length d ≡ length l - at = length-drop at l in
    let fits : 0 + length text ≤ length d = omega arith in
    let whole : part ≡ text ++ drop (at + length text) l = bytes-by w ∙ rw (part_to_end l at) (sets-eq text d 0 fits ∙ rw (zero-add (length text), drop-drop (length text) at l)) in
    let none : drop (length l - at) d ≡ [] = drop_of_length-le d {i = length l - at} (omega arith) in
    wrote
    (omega (arith, past_by w))
    (rw (none, append-nil part, whole) (sym (sets-eq text l at h ∙ append_assoc (take at l) text (drop (at + length text) l))))

-- ---- two texts

-- room for a text and another behind it is room for each
pub room_first : (s t : List ℕ) (at long : ℕ) → at + length (s ++ t) ≤ long → at + length s ≤ long
room_first s t at long r = let e = length-append s t in omega arith

pub room_second : (s t l : List ℕ) (at j : ℕ) (m : List ℕ) → at + length (s ++ t) ≤ length l → Wrote l at s j m → j + length t ≤ length m
room_second s t l at j m r w =
    let e = length-append s t in
    let f = wrote_length w in
    omega (arith, past_by w)

-- ---- a copy, byte by byte

-- the first i bytes of `source` were written
pub record Copied (l : List ℕ) (at : ℕ) (source : List ℕ) (i : ℕ) (m : List ℕ) : Type 0 where
  pub within : i ≤ length source
  pub long : length m ≡ length l
  pub copy : Wrote l at (take i source) (at + i) m

pub copy_start : (l : List ℕ) (at : ℕ) (source : List ℕ) → Copied l at source 0 l
copy_start l at source =
    record { within = omega arith; long = refl; copy = rw (add-zero at) (wrote_nothing l at) }

pub copy_next : (l : List ℕ) (at : ℕ) (source : List ℕ) (i : ℕ) (m : List ℕ) → Copied l at source i m → i < length source
    → Copied l at source (i + 1) (set m (at + i) (get_or source i 0))
copy_next l at source i m c h =
    let b = wrote_byte m (at + i) (get_or source i 0) in
    let w : Wrote l at (take i source ++ (get_or source i 0 ∷ [])) (at + i + 1) (set m (at + i) (get_or source i 0)) = wrote_join c.copy b in
    let e : at + i + 1 ≡ at + (i + 1) = omega arith in
    let t : take (i + 1) source ≡ take i source ++ (get_or source i 0 ∷ []) = rw (add-one, take-suc source i 0) in
    record { within = omega arith; long = wrote_length b ∙ c.long; copy = rw (t, ← e) w }

pub copy_end : (l : List ℕ) (at : ℕ) (source : List ℕ) (i : ℕ) (m : List ℕ) → Copied l at source i m → length source ≤ i → Wrote l at source (at + i) m
copy_end l at source i m c h = rw (take_all i source h) at c.copy

-- all of it was written
pub copy_all : (l : List ℕ) (at : ℕ) (source : List ℕ) (i : ℕ) (m : List ℕ) → Copied l at source i m → length source ≤ i → Wrote l at source (at + length source) m
copy_all l at source i m c h =
    let e : at + i ≡ at + length source = omega (arith, c.within) in
    rw (← e) (copy_end l at source i m c h)

pub ruleset copying = (copy_start, copy_next, copy_end, copy_all)
