-- How a line names a parameter: the parts that are put down one by one, and a rule for each return and each call of their writers.
use Rattle.std.specs.Prelude.{◌≡◌, refl, List, [], ◌∷◌, ◌++◌, ℕ, ◌+◌, ◌-◌, ◌≤◌, length, take, drop}
use Rattle.std.proofs.Common.{append_assoc}
use native.Mathlib.Omega.{arith}
use Rattle.text.specs.Written.{Wrote}
use Rattle.text.specs.Written.Laws.{wrote_join, room_first, room_second}
use Rattle.spelling.specs.IndexText.Parts.{from_start, room_middle, room_third}
use Rattle.catalogue.specs.Groups.{groups_of}
use Rattle.catalogue.specs.declared.groups.Part.{Part}
use Rattle.room.specs.Label.{label}
use Rattle.room.specs.Label.Length.{label-part, label-place}
use Rattle.room.specs.declared.table.Module.{Module}
use Rattle.values.specs.declared.parameter.Parameter.{Parameter}
use Rattle.spelling.specs.Name.{front, name}
use Rattle.spelling.specs.IndexText.{index_text}

-- a module's label between quotes
unfoldable pub quoted_text : List ℕ → Module → List ℕ
quoted_text t m = 0x22 ∷ (label t m ++ (0x22 ∷ []))

-- ---- the label

module _ (t : List ℕ) (m : Module) (n : ℕ) (e : n ≡ length (label t m)) where
  pub label-room : (at long : ℕ) → at + length (label t m) ≤ long → at + length (take (m.place + 1 + n - (m.place + 1)) (drop (m.place + 1) t)) ≤ long
  label-room at long h = rw (label-part t m n e) h

  pub wrote_label : (at r : ℕ) (l k : List ℕ) → Wrote l at (take (m.place + 1 + n - (m.place + 1)) (drop (m.place + 1) t)) r k
      → Wrote l at (label t m) r k
  wrote_label at r l k w = rw (label-part t m n e) at w

pub ruleset label_writing = (label-place, label-room, wrote_label)

-- ---- the label between quotes

pub quoted-first : (t : List ℕ) (m : Module) (at long : ℕ) → at + length (quoted_text t m) ≤ long → at + 1 ≤ long
unfolding quoted_text
quoted-first t m at long h = omega arith

pub quoted-second : (t : List ℕ) (m : Module) (at j : ℕ) (l k : List ℕ) → at + length (quoted_text t m) ≤ length l → Wrote l at (0x22 ∷ []) j k
    → j + length (label t m) ≤ length k
unfolding quoted_text
quoted-second t m at j l k h w = room_middle (0x22 ∷ []) (label t m) (0x22 ∷ []) l at j k h w

pub quoted-third : (t : List ℕ) (m : Module) (at j i : ℕ) (l k n : List ℕ) → at + length (quoted_text t m) ≤ length l → Wrote l at (0x22 ∷ []) j k
    → Wrote k j (label t m) i n → i + 1 ≤ length n
unfolding quoted_text
quoted-third t m at j i l k n h v w = room_third (0x22 ∷ []) (label t m) (0x22 ∷ []) l at j i k n h v w

pub wrote_quoted : (t : List ℕ) (m : Module) (at j i r : ℕ) (l k n o : List ℕ) → Wrote l at (0x22 ∷ []) j k → Wrote k j (label t m) i n
    → Wrote n i (0x22 ∷ []) r o → Wrote l at (quoted_text t m) r o
unfolding quoted_text
wrote_quoted t m at j i r l k n o u v w = wrote_join u (wrote_join v w)

pub ruleset quoted_writing = (quoted-first, quoted-second, quoted-third, wrote_quoted)

-- ---- the name

name-parts : (t : List ℕ) (p : Parameter) (part : Part) → name t p part ≡ quoted_text t p.owner ++ index_text (groups_of p.row.indices part)
unfolding name quoted_text
name-parts t p part = simp append_assoc

module _ (t : List ℕ) (p : Parameter) (part : Part) (at : ℕ) where
  pub name-first : (long : ℕ) → at + length (name t p part) ≤ long → at + length (quoted_text t p.owner) ≤ long
  name-first long h = room_first (quoted_text t p.owner) (index_text (groups_of p.row.indices part)) at long (rw (name-parts t p part) at h)

  pub name-second : (j : ℕ) (l m : List ℕ) → at + length (name t p part) ≤ length l → Wrote l at (quoted_text t p.owner) j m
      → j + length (index_text (groups_of p.row.indices part)) ≤ length m
  name-second j l m h w = room_second (quoted_text t p.owner) (index_text (groups_of p.row.indices part)) l at j m (rw (name-parts t p part) at h) w

  pub wrote_name : (j r : ℕ) (l m k : List ℕ) → Wrote l at (quoted_text t p.owner) j m → Wrote m j (index_text (groups_of p.row.indices part)) r k
      → Wrote l at (name t p part) r k
  wrote_name j r l m k v w = rw (name-parts t p part) (wrote_join v w)

pub ruleset name_writing = (name-first, name-second, wrote_name)

-- ---- what stands before the value

module _ (verb : ℕ) (t : List ℕ) (p : Parameter) (part : Part) (l : List ℕ) (room : length (front verb t p part) ≤ length l) where
  pub front-first : 2 ≤ length l
  unfolding front
  front-first = omega arith

  pub front-second : (j : ℕ) (m : List ℕ) → Wrote l 0 (verb ∷ 0x41 ∷ []) j m → j + length (name t p part) ≤ length m
  unfolding front
  front-second j m w = room_middle (verb ∷ 0x41 ∷ []) (name t p part) (0x3D ∷ []) l 0 j m (from_start _ (length l) room) w

  pub front-third : (j i : ℕ) (m n : List ℕ) → Wrote l 0 (verb ∷ 0x41 ∷ []) j m → Wrote m j (name t p part) i n → i + 1 ≤ length n
  unfolding front
  front-third j i m n v w = room_third (verb ∷ 0x41 ∷ []) (name t p part) (0x3D ∷ []) l 0 j i m n (from_start _ (length l) room) v w

pub wrote_front : (verb : ℕ) (t : List ℕ) (p : Parameter) (part : Part) (l : List ℕ) (j i r : ℕ) (m n k : List ℕ) → Wrote l 0 (verb ∷ 0x41 ∷ []) j m → Wrote m j (name t p part) i n
    → Wrote n i (0x3D ∷ []) r k → Wrote l 0 (front verb t p part) r k
unfolding front
wrote_front verb t p part l j i r m n k u v w = wrote_join u (wrote_join v w)

-- every verb is as long
pub same-front : (verb other : ℕ) (t : List ℕ) (p : Parameter) (part : Part) → length (front verb t p part) ≡ length (front other t p part)
unfolding front
same-front verb other t p part = refl

pub ruleset front_writing = (front-first, front-second, front-third, wrote_front)
