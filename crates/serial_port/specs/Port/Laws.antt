-- Laws of the port's view: joining bytes to the held line, and when two ports are the same.
use Rattle.std.specs.Prelude.{◌≡◌, refl, Bool, true, cond, List, [], ◌++◌, ℕ, ◌+◌, ◌≤◌, ◌<◌, leb, length, take}
use Rattle.std.proofs.Common.{◌∙◌, ap, append-nil, append_assoc, leb-true, leb-false, le-leb, length-append}
use Rattle.std.proofs.Math.Bool.{false}
use native.Mathlib.Omega.{arith}
use Rattle.std.proofs.lemmas.Bool.{lt-leb}
use Rattle.std.proofs.Math.ListN.{length-take}
use Rattle.syntax.specs.Shape.{line_limit}
use Rattle.serial_port.specs.Port.{View, held, over, view, Same, both_over, both_held, fresh, claim, fit, join}
use Rattle.serial_port.specs.declared.port.Port.{Port}

pub fit-short : (l : List ℕ) → length l ≤ line_limit → fit l ≡ held l
unfolding fit
fit-short l h = rw (le-leb (length l) line_limit h)

pub fit-long : (l : List ℕ) → line_limit < length l → fit l ≡ over
unfolding fit
fit-long l h = rw (lt-leb (length l) line_limit h)

-- a fresh port claims none
pub fresh-none : claim fresh ≡ 0
unfolding claim fresh
fresh-none = refl

pub fresh-few : claim fresh ≤ line_limit
fresh-few = rw fresh-none (omega arith)

-- a port that claims at most 64 bytes: nothing joined to it changes nothing
pub join-nothing : (v : View) → claim v ≤ line_limit → join v [] ≡ v
unfolding join claim
join-nothing (held l) h = rw append-nil (fit-short l h)
join-nothing over h = refl

pub join-fresh : (l : List ℕ) → length l ≤ line_limit → join fresh l ≡ held l
unfolding join fresh
join-fresh l h = fit-short l h

pub join-overruns : (l : List ℕ) → line_limit < length l → join fresh l ≡ over
unfolding join fresh
join-overruns l h = fit-long l h

-- a fitted line reads on as the longer line
fit-join : (l bs : List ℕ) → join (fit l) bs ≡ fit (l ++ bs)
unfolding join
fit-join l bs = go (leb (length l) line_limit) refl
  where
    go : (t : Bool) → leb (length l) line_limit ≡ t → join (fit l) bs ≡ fit (l ++ bs)
    go true e = rw (fit-short l (leb-true (length l) line_limit e)) refl
    go false e =
        let longer : line_limit < length (l ++ bs) = simp length-append (omega (arith, leb-false (length l) line_limit e)) in
        rw (fit-long l (leb-false (length l) line_limit e), fit-long (l ++ bs) longer) refl

-- joining twice is joining both
pub join-join : (v : View) (a b : List ℕ) → join (join v a) b ≡ join v (a ++ b)
unfolding join
join-join (held l) a b = fit-join (l ++ a) b ∙ ap fit (append_assoc l a b)
join-join over a b = refl

fit-claim : (l : List ℕ) → (claim (fit l) ≤ line_limit) × (claim (fit l) ≤ length l)
unfolding claim
fit-claim l = go (leb (length l) line_limit) refl
  where
    go : (t : Bool) → leb (length l) line_limit ≡ t → (claim (fit l) ≤ line_limit) × (claim (fit l) ≤ length l)
    go true e = let h = leb-true (length l) line_limit e in rw (fit-short l h) (omega arith)
    go false e = rw (fit-long l (leb-false (length l) line_limit e)) (omega arith)

-- a port that a call leaves claims at most 64 bytes, and no more than it held and was given together
pub claim-join : (v : View) (bs : List ℕ) → claim (join v bs) ≤ line_limit
unfolding join claim
claim-join (held l) bs = (fit-claim (l ++ bs)).0
claim-join over bs = omega arith

pub claim-join_length : (v : View) (bs : List ℕ) → claim (join v bs) ≤ claim v + length bs
unfolding join claim
claim-join_length (held l) bs = simp (← length-append) (fit-claim (l ++ bs)).1
claim-join_length over bs = omega arith

-- a port that claims at most 64 bytes is seen as one that does
pub claim-view : (p : Port) → p.len ≤ line_limit → claim (view p) ≤ line_limit
unfolding view
claim-view p h = go p.overrun
  where
    go : (b : Bool) → claim (cond b over (held (take p.len p.held))) ≤ line_limit
    go true = unfold claim in omega arith
    go false = unfold claim in simp length-take (omega arith)

-- ---- ports that count as the same

-- they are seen alike
pub same_seen : (p q : Port) → Same p q → view p ≡ view q
unfolding view
same_seen p q (both_over a b h k) = rw (a, b) refl
same_seen p q (both_held a b e) = rw (a, b) (ap held e)

-- of ports that claim at most 64 bytes, those that are seen alike are the same
pub seen_same : (p q : Port) → p.len ≤ line_limit → q.len ≤ line_limit → view p ≡ view q → Same p q
unfolding view
seen_same p q h k s = go p.overrun q.overrun refl refl s
  where
    go : (a b : Bool) → p.overrun ≡ a → q.overrun ≡ b → view p ≡ view q → Same p q
    go true true a b e = both_over a b h k
    go true false a b e = absurd (let z : ◌≡◌ {A = ℕ} 0 1 = cc in omega arith)
    go false true a b e = absurd (let z : ◌≡◌ {A = ℕ} 0 1 = cc in omega arith)
    go false false a b e = both_held a b (cc)
