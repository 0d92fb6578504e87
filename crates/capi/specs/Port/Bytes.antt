-- Rules for the code that reads and stores the bytes of a port.
use Rattle.std.specs.Prelude.{◌≡◌, refl, Bool, true, false, not, cond, List, [], ◌∷◌, ℕ, ◌+◌, ◌-◌, ◌≤◌, eqb, length, get_or, take, drop, set}
use Rattle.std.proofs.Common.{◌∙◌, append-nil, zero-add, arith, length-set, length-drop, take_all}
use Rattle.std.proofs.Math.Seq.{drop-length}
use Rattle.text.specs.Written.{Wrote}
use Rattle.text.specs.Written.Laws.{wrote_between}
use Rattle.serial_port.specs.declared.port.Port.{Port}
use Rattle.capi.specs.Port.{port_of}

-- ---- the port that the bytes say

-- a text as long as its buffer is all of it
pub wrote_whole : (l s : List ℕ) (r : ℕ) (m : List ℕ) → Wrote l 0 s r m → length s ≡ length l → m ≡ s
wrote_whole l s r m w e =
    let b = wrote_between w (omega arith) in
    let d : drop (0 + length s) l ≡ [] = rw (zero-add, e) (drop-length l) in
    b ∙ rw d (append-nil s)

pub port_said : (port h : List ℕ) (r : ℕ) (m : List ℕ) (n : ℕ) → length port ≡ 66 → length h ≡ 64 → Wrote h 0 (take (length port - 2) (drop 2 port)) r m
    → n ≡ get_or port 0 0 → record { held = m; len = n; overrun = not (eqb (get_or port 1 0) 0) } ≡ port_of port
unfolding port_of
port_said port h r m n l e w k =
    let d = length-drop 2 port in
    let a : take (length port - 2) (drop 2 port) ≡ drop 2 port = take_all (length port - 2) (drop 2 port) (omega arith) in
    let w' = rw a at w in
    rw (wrote_whole h (drop 2 port) r m w' (omega arith), k) refl

-- ---- the bytes in which a port is stored

unfoldable pub bytes_of : Port → List ℕ
bytes_of q = q.len ∷ cond q.overrun 1 0 ∷ q.held

pub flag_said : (o : Bool) → not (eqb (cond o 1 0) 0) ≡ o
flag_said true = refl
flag_said false = refl

-- they say that port
pub bytes-say : (q : Port) → port_of (bytes_of q) ≡ q
unfolding port_of bytes_of
bytes-say q = rw (flag_said q.overrun) refl

pub bytes-claim : (q : Port) → get_or (bytes_of q) 0 0 ≡ q.len
unfolding bytes_of
bytes-claim q = refl

pub bytes-flag : (q : Port) → get_or (bytes_of q) 1 0 ≤ 1
unfolding bytes_of
bytes-flag q = go q.overrun
  where
    go : (o : Bool) → cond o 1 0 ≤ 1
    go true = omega arith
    go false = omega arith

-- ---- the code that stores them

size : (l : List ℕ) (a b : ℕ) → length l ≡ 66 → length (set (set l 0 a) 1 b) ≡ 66
size l a b long = length-set (set l 0 a) 1 b ∙ length-set l 0 a ∙ long

pub store_room : (l h : List ℕ) (a b : ℕ) → length l ≡ 66 → length h ≡ 64 → 2 + length h ≤ length (set (set l 0 a) 1 b)
store_room l h a b long full = omega (arith, size l a b long)

two_set : (l : List ℕ) (a b : ℕ) → 2 ≤ length l → take 2 (set (set l 0 a) 1 b) ≡ a ∷ b ∷ []
two_set [] a b h = absurd (omega arith)
two_set (x ∷ []) a b h = absurd (omega arith)
two_set (x ∷ y ∷ l) a b h = refl

pub port_stored : (l : List ℕ) (q : Port) (b r : ℕ) (m : List ℕ) → length l ≡ 66 → length q.held ≡ 64 → b ≡ cond q.overrun 1 0
    → Wrote (set (set l 0 q.len) 1 b) 2 q.held r m → m ≡ bytes_of q
unfolding bytes_of
port_stored l q b r m long full e w =
    let z = size l q.len b long in
    let k = set (set l 0 q.len) 1 b in
    let d : drop (2 + length q.held) k ≡ [] = rw (full, ← z) (drop-length k) in
    wrote_between w (omega arith) ∙ rw (d, two_set l q.len b (omega arith), append-nil q.held, e) refl

pub ruleset storing = (store_room, port_stored)
