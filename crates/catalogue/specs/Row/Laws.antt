-- Laws of permitted values, and the rules for the code that tests one.
use Rattle.std.specs.Prelude.{◌≡◌, Bool, true, false, cond, ℕ, zero, suc, ◌+◌, ◌-◌, ◌%◌, ◌^◌, ◌<◌, ◌≤◌, T, eqb, ℤ, pos, negsuc, nat_abs, ◌-ℤ◌}
use Rattle.std.proofs.Math.Path.{refl}
use Rattle.std.proofs.Common.{sym, ◌∙◌, arith, le-leb, le-ltb, ltb-false, ltb-true, leb-true, Fits, SFits, of_z, to_z}
use Rattle.std.proofs.Math.Bool.{and-false}
use Rattle.std.proofs.lemmas.Bool.{lt-leb}
use Rattle.std.specs.Int.Signed.{le_z, lt_z, mag, non_neg}
use Rattle.std.proofs.Math.Facts.{Fits-nat_abs, to_z-of_z}
use Rattle.std.specs.Int.{w64}
use Rattle.catalogue.specs.Row.{RowFits, permitted, start}
use Rattle.catalogue.specs.declared.row.Row.{Row}

-- ---- the order of signed numbers, tested one way and the other

pub lt_le : (a b : ℤ) → lt_z a b ≡ true → le_z b a ≡ false
lt_le (pos a) (pos b) e = lt-leb b a (ltb-true a b e)
lt_le (pos a) (negsuc b) e = sym e
lt_le (negsuc a) (pos b) e = refl
lt_le (negsuc a) (negsuc b) e = lt-leb a b (ltb-true b a e)

pub nlt_le : (a b : ℤ) → lt_z a b ≡ false → le_z b a ≡ true
nlt_le (pos a) (pos b) e = le-leb b a (ltb-false a b e)
nlt_le (pos a) (negsuc b) e = refl
nlt_le (negsuc a) (pos b) e = sym e
nlt_le (negsuc a) (negsuc b) e = le-leb a b (ltb-false b a e)

-- ---- a value within a row's bounds, and its distance from low

-- v stands `by` above l
record Above (l v : ℤ) : Type 0 where
  by : ℕ
  is : v -ℤ l ≡ pos by
  bound : by ≤ mag v + mag l + 1

above : (l v : ℤ) → lt_z v l ≡ false → Above l v
above (pos zero) (pos b) e = record { by = b + 0; is = refl; bound = omega arith }
above (pos (suc a)) (pos b) e = record { by = b - suc a; is = rw e; bound = omega arith }
above (pos a) (negsuc b) e = absurd (let z : ◌≡◌ {A = ℕ} 0 1 = cc in omega arith)
above (negsuc a) (pos b) e = record { by = b + suc a; is = refl; bound = omega arith }
above (negsuc a) (negsuc b) e =
    let h = ltb-false a b e in
    record { by = suc a - suc b; is = rw (le-ltb (suc a) (suc b) (omega arith)); bound = omega arith }

pub between : (k : ℕ) (l v h : ℤ) → mag l < k → mag h < k → le_z l v ≡ true → le_z v h ≡ true → mag v < k
between n l (pos b) (pos c) ml mh e f = let k = leb-true b c f in omega arith
between n l (pos b) (negsuc c) ml mh e f = absurd (let z : ◌≡◌ {A = ℕ} 0 1 = cc in omega arith)
between n (pos a) (negsuc b) h ml mh e f = absurd (let z : ◌≡◌ {A = ℕ} 0 1 = cc in omega arith)
between n (negsuc a) (negsuc b) h ml mh e f = let k = leb-true b a e in omega arith

-- ---- rules for the code: a signed local is read back from its bits

abbrev pub bits : ℤ → ℤ
bits z = to_z w64 (of_z w64 z)

pub value_bits : (z : ℤ) → mag z < 2 ^ 62 → bits z ≡ z
value_bits z h = to_z-of_z {w = w64} (record { sfits = omega (arith, h) })

module _ (r : Row) (v : ℤ) (fit : RowFits r) (sfit : SFits w64 v) where
  pub too_low : lt_z (bits v) (bits r.low) ≡ true → false ≡ permitted r v
  unfolding permitted
  too_low e = rw (lt_le v r.low (rw (to_z-of_z sfit, value_bits r.low fit.low_fits) at e))

  pub too_high : lt_z (bits r.high) (bits v) ≡ true → false ≡ permitted r v
  unfolding permitted
  too_high e = rw (lt_le r.high v (rw (value_bits r.high fit.high_fits, to_z-of_z sfit) at e), and-false (le_z r.low v))

  module _ (over_low : lt_z (bits v) (bits r.low) ≡ false) (under_high : lt_z (bits r.high) (bits v) ≡ false) where
    not_low : lt_z v r.low ≡ false
    not_low = rw (to_z-of_z sfit, value_bits r.low fit.low_fits) at over_low

    not_high : lt_z r.high v ≡ false
    not_high = rw (value_bits r.high fit.high_fits, to_z-of_z sfit) at under_high

    from_low : Above r.low v
    from_low = above r.low v not_low

    near : from_low.by < 2 ^ 63
    near = omega (arith, from_low.bound, between (2 ^ 62) r.low v r.high fit.low_fits fit.high_fits (nlt_le v r.low not_low) (nlt_le r.high v not_high), fit.low_fits)

    distance_is : bits v -ℤ bits r.low ≡ pos from_low.by
    distance_is = rw (to_z-of_z sfit, value_bits r.low fit.low_fits) from_low.is

    pub distance_fits : SFits w64 (bits v -ℤ bits r.low)
    distance_fits = rw distance_is (record { sfits = near })

    pub distance_sign : T (non_neg (bits (bits v -ℤ bits r.low)))
    distance_sign = rw (to_z-of_z distance_fits, distance_is) tt

    pub distance_wide : Fits w64 (nat_abs (bits (bits v -ℤ bits r.low)))
    distance_wide = rw (to_z-of_z distance_fits) (Fits-nat_abs tt distance_fits)

    pub distance_below : (k : ℕ) → mag r.low < k → mag r.high < k → nat_abs (bits (bits v -ℤ bits r.low)) < k + k
    distance_below k a b =
        rw (to_z-of_z distance_fits, distance_is) (omega (arith, from_low.bound, between k r.low v r.high a b (nlt_le v r.low not_low) (nlt_le r.high v not_high), a))

    pub divided : eqb (nat_abs (bits (bits v -ℤ bits r.low)) % r.step) 0 ≡ permitted r v
    unfolding permitted
    divided =
        rw (nlt_le v r.low not_low, nlt_le r.high v not_high, to_z-of_z distance_fits, to_z-of_z sfit, value_bits r.low fit.low_fits) refl

pub ruleset permitting = (too_low, too_high, distance_fits, distance_sign, distance_wide, divided)

pub starts-zero : (r : Row) (t : Bool) → t ≡ permitted r (pos 0) → t ≡ true → pos 0 ≡ start r
unfolding start
starts-zero r t e h = rw (sym e ∙ h)

pub starts-low : (r : Row) (t : Bool) → RowFits r → t ≡ permitted r (pos 0) → t ≡ false → bits r.low ≡ start r
unfolding start
starts-low r t fit e h = rw (sym e ∙ h) (value_bits r.low fit.low_fits)

-- a start value is a number of the machine
pub start_fits : (r : Row) → RowFits r → SFits w64 (start r)
unfolding start
start_fits r f = go (permitted r (pos 0))
  where
    go : (b : Bool) → SFits w64 (cond b (pos 0) r.low)
    go true = record { sfits = omega arith }
    go false = record { sfits = omega (arith, f.low_fits) }

pub ruleset starting = (starts-zero, starts-low)
