-- Rules for the start values, one by one.
use Rattle.std.specs.Prelude.{◌≡◌, refl, true, List, [], ◌∷◌, ◌++◌, ℕ, zero, suc, ◌+◌, ◌≤◌, ◌<◌, ℤ, pos, length, get_or, take, drop, set, Option, Some, None}
use Rattle.std.proofs.Common.{ap, ◌∙◌, add-one, arith, length-set, drop-cons, length-take-le, take-suc, to_z-of_z, of_z, to_z}
use Rattle.std.proofs.Math.Path.{sym}
use Rattle.std.proofs.Math.Seq.{append_snoc, take-length}
use Rattle.std.proofs.lemmas.List.{set_at}
use Rattle.std.specs.Int.{w64}
use Rattle.values.specs.Parameters.Each.{parameter_fits}
use Rattle.values.specs.Parameters.{parameter_at, parameters}
use Rattle.catalogue.specs.Row.{RowFits, start}
use Rattle.catalogue.specs.Row.Laws.{start_fits}
use Rattle.room.specs.Table.{sound}
use Rattle.values.specs.Starts.{Started, starts, starts_of}
use Rattle.values.specs.declared.parameter.Parameter.{Parameter}

-- ---- one start value

found : (ps : List Parameter) (k : ℕ) (p : Parameter) → parameter_at ps k ≡ Some p → get_or (starts_of ps) k (pos 0) ≡ start p.row
unfolding parameter_at starts_of
found [] k p e = absurd (let z : ◌≡◌ {A = ℕ} 0 1 = cc in omega arith)
found (q ∷ ps) zero p e = let s : q ≡ p = cc in ap (λ (x : Parameter). start x.row) s
found (q ∷ ps) (suc k) p e = found ps k p e

none : (ps : List Parameter) (k : ℕ) → parameter_at ps k ≡ None → get_or (starts_of ps) k (pos 0) ≡ pos 0
unfolding parameter_at starts_of
none [] k e = refl
none (q ∷ ps) zero e = absurd (let z : ◌≡◌ {A = ℕ} 0 1 = cc in omega arith)
none (q ∷ ps) (suc k) e = none ps k e

module _ (t : List ℕ) (k : ℕ) (f : Option Parameter) (s : sound t ≡ true) (e : f ≡ parameter_at (parameters t) k) where
  pub found-fits : (p : Parameter) → f ≡ Some p → RowFits p.row
  found-fits p h = parameter_fits t s k p (sym e ∙ h)

  pub start-found : (p : Parameter) (z : ℤ) → f ≡ Some p → z ≡ start p.row → to_z w64 (of_z w64 z) ≡ get_or (starts t) k (pos 0)
  unfolding starts
  start-found p z h g = rw g (to_z-of_z (start_fits p.row (found-fits p h)) ∙ sym (found (parameters t) k p (sym e ∙ h)))

  pub start_none : f ≡ None → pos 0 ≡ get_or (starts t) k (pos 0)
  unfolding starts
  start_none h = sym (none (parameters t) k (sym e ∙ h))

pub ruleset one_start = (found-fits, start-found, start_none)

-- ---- the list, filled from its beginning

length-starts_of : (ps : List Parameter) → length (starts_of ps) ≡ length ps
unfolding starts_of
length-starts_of [] = refl
length-starts_of (p ∷ ps) = ap suc (length-starts_of ps)

pub length-starts : (t : List ℕ) → length (starts t) ≡ length (parameters t)
unfolding starts
length-starts t = length-starts_of (parameters t)

-- the first k entries are start values
pub record Filling (t : List ℕ) (before : List ℤ) (count : ℕ) (values : List ℤ) (k : ℕ) : Type 0 where
  pub counts : count ≡ length (starts t)
  pub within : k ≤ count
  pub room : count ≤ length before
  pub long : length values ≡ length before
  pub list : values ≡ take k (starts t) ++ drop k before

pub filling_start : (t : List ℕ) (before : List ℤ) (count : ℕ) → count ≡ length (parameters t) → length (starts t) ≤ length before → Filling t before count before 0
filling_start t before count e h =
    record { counts = e ∙ sym (length-starts t); within = omega arith; room = omega (arith, length-starts t); long = refl; list = refl }

pub filling_inside : (t : List ℕ) (before : List ℤ) (count : ℕ) (values : List ℤ) (k : ℕ) → Filling t before count values k → k < count → k < length values
filling_inside t before count values k s l = omega (arith, s.room, s.long)

one_more : (st before : List ℤ) (k : ℕ) (z : ℤ) → k < length st → k < length before → z ≡ get_or st k (pos 0)
    → set (take k st ++ drop k before) k z ≡ take (suc k) st ++ drop (suc k) before
one_more st before k z h g e =
    rw (drop-cons before k (pos 0) g, take-suc st k (pos 0) h)
    (set_at (take k st) (get_or before k (pos 0)) (drop (suc k) before) z k (length-take-le k st (omega arith))
    ∙ rw e (sym (append_snoc (take k st) (get_or st k (pos 0)) (drop (suc k) before))))

pub filling_next : (t : List ℕ) (before : List ℤ) (count : ℕ) (values : List ℤ) (k : ℕ) (z : ℤ) → Filling t before count values k → k < count → z ≡ get_or (starts t) k (pos 0)
    → Filling t before count (set values k z) (k + 1)
filling_next t before count values k z s l e =
    record {
      counts = s.counts;
      within = omega arith;
      room = s.room;
      long = length-set values k z ∙ s.long;
      list = ap (λ (x : List ℤ). set x k z) s.list ∙ rw (add-one k) (one_more (starts t) before k z (omega (arith, s.counts)) (omega (arith, s.room)) e);
    }

pub filling_all : (t : List ℕ) (before : List ℤ) (count : ℕ) (values : List ℤ) (k : ℕ) → Filling t before count values k → count ≤ k → Started t before count values
filling_all t before count values k s l =
    let d : k ≡ length (starts t) = omega (arith, s.counts, s.within) in
    record { count = s.counts; list = s.list ∙ rw (d, take-length) }

pub ruleset filling = (filling_start, filling_inside, filling_next, filling_all)
