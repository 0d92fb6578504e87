-- The price of a list of changes as a potential: no line lowers it by more than its bytes and its 0D.
use Rattle.std.specs.Prelude.{◌≡◌, refl, List, [], ◌∷◌, ℕ, zero, suc, ◌+◌, ◌≤◌, ◌<◌, ℤ, pos, length, get_or, set, Some}
use Rattle.std.proofs.Common.{◌∙◌, ap, arith, length-append}
use Rattle.values.specs.Parameters.{parameter_at, parameters, place}
use Rattle.values.specs.Parameters.Elements.{at-element}
use Rattle.values.specs.Room.{Room}
use Rattle.values.specs.declared.parameter.Parameter.{Parameter}
use Rattle.syntax.specs.Shape.{line_limit}
use Rattle.line.specs.Answer.{answer}
use Rattle.serial_port.specs.Play.Laws.{Right}
use Rattle.wish.specs.Listing.{Change, listing}
use Rattle.wish.proofs.Laws.Listing.Differing.{Differ, none, other, same}
use Rattle.wish.specs.Listing.Laws.{listing-first, listing_none}
use Rattle.restore.specs.Demand.Lines.{price, Effect, nothing, puts, Lines}
use Rattle.values.specs.Values.Laws.{equal-refl, value_permitted, values_many, at-inside}

-- ---- a function of each value, summed

unfoldable pub total : List (ℤ → ℕ) → List ℤ → ℕ
total [] vs = 0
total (f ∷ fs) [] = 0
total (f ∷ fs) (v ∷ vs) = f v + total fs vs

-- the price where there is none to pay
unfoldable pub free : ℤ → ℕ
free v = 0

-- setting one value changes one summand
total-set : (fs : List (ℤ → ℕ)) (vs : List ℤ) (k : ℕ) (x : ℤ) → k < length vs
    → total fs vs + get_or fs k free x ≡ total fs (set vs k x) + get_or fs k free (get_or vs k (pos 0))
unfolding total free
total-set [] vs k x h = refl
total-set (f ∷ fs) [] k x h = absurd (omega arith)
total-set (f ∷ fs) (v ∷ vs) zero x h = omega arith
total-set (f ∷ fs) (v ∷ vs) (suc k) x h = omega (arith, total-set fs vs k x (omega arith))

-- ---- the prices of the parameters ps, each to its target

unfoldable pub prices : (table : List ℕ) → List Parameter → (target : List ℤ) → List (ℤ → ℕ)
prices t [] xs = []
prices t (p ∷ ps) [] = []
prices t (p ∷ ps) (x ∷ xs) = price t p x ∷ prices t ps xs

price-at : (t : List ℕ) (ps : List Parameter) (xs : List ℤ) (k : ℕ) (d : Parameter) → k < length ps → k < length xs
    → get_or (prices t ps xs) k free ≡ price t (get_or ps k d) (get_or xs k (pos 0))
unfolding prices
price-at t [] xs k d h l = absurd (omega arith)
price-at t (p ∷ ps) [] k d h l = absurd (omega arith)
price-at t (p ∷ ps) (x ∷ xs) zero d h l = refl
price-at t (p ∷ ps) (x ∷ xs) (suc k) d h l = price-at t ps xs k d (omega arith) (omega arith)

-- nothing is left to pay where the target is reached
pub price-reached : (t : List ℕ) (ps : List Parameter) (xs : List ℤ) → total (prices t ps xs) xs ≡ 0
unfolding total prices price
price-reached t [] xs = refl
price-reached t (p ∷ ps) [] = refl
price-reached t (p ∷ ps) (x ∷ xs) = rw (equal-refl x) (omega (arith, price-reached t ps xs))

-- the list costs what its bytes are
pub price-listing : (t : List ℕ) {ps : List Parameter} {vs xs : List ℤ} {cs : List Change} → Differ ps vs xs cs
    → total (prices t ps xs) vs ≡ length (listing t cs)
unfolding total prices price
price-listing t none = rw (listing_none t) refl
price-listing t (same p v d) = rw (equal-refl v) (omega (arith, price-listing t d))
price-listing t (other p v x {cs = cs} n d) =
    rw (n, listing-first t (record { parameter = p; present = v; target = x }) cs) (simp length-append (omega (arith, price-listing t d)))

-- what is left to pay on the way to the target xs
abbrev pub potential : (table : List ℕ) → (target : List ℤ) → List ℤ → ℕ
potential t xs vs = total (prices t (parameters t) xs) vs

-- no line of any bytes lowers it by more than its bytes and its 0D
module _ (r : Room) (lines : Lines r) (xs : List ℤ) (permits : Right r xs) where
  pub lowers : (vs : List ℤ) (l : List ℕ) → length l ≤ line_limit → Right r vs → potential r.table xs vs ≤ length l + 1 + potential r.table xs (answer r vs l).values
  lowers vs l n g = go (lines.effect vs l)
    where
      fs : List (ℤ → ℕ)
      fs = prices r.table (parameters r.table) xs

      -- the price of p, to its target
      at_place : (p : Parameter) → parameter_at (parameters r.table) (place p) ≡ Some p → get_or fs (place p) free ≡ price r.table p (get_or xs (place p) (pos 0))
      at_place p e =
          let here = at-inside (parameters r.table) (place p) p e in
          price-at r.table (parameters r.table) xs (place p) p here (omega (arith, values_many r xs permits))
          ∙ ap (λ q. price r.table q (get_or xs (place p) (pos 0))) (at-element (parameters r.table) (place p) p p e)

      go : Effect r vs l → potential r.table xs vs ≤ length l + 1 + potential r.table xs (answer r vs l).values
      go (nothing e) = rw e (omega arith)
      go (puts p x s e c) =
          let here = at-inside (parameters r.table) (place p) p s.listed in
          let changes = total-set fs vs (place p) x (omega (arith, values_many r vs g)) in
          let spared = c g (get_or xs (place p) (pos 0)) (value_permitted r xs (place p) p permits s.listed) in
          rw e (omega (arith, rw (at_place p s.listed) at changes, spared))
