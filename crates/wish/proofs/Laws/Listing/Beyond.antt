-- A wanted change that is beyond reach: which parameter it is of.
use Rattle.std.specs.Prelude.{◌≡◌, refl, Bool, true, false, cond, List, [], ◌∷◌, ℕ, suc, ℤ, pos, get_or, Some}
use Rattle.std.proofs.Common.{sym, ◌∙◌, ap, true≢false}
use Rattle.values.specs.Parameters.{parameter_at, parameters}
use Rattle.values.specs.Parameters.Elements.{element_first, element_later}
use Rattle.values.specs.declared.parameter.Parameter.{Parameter}
use Rattle.wish.specs.Target.{Wish, target}
use Rattle.wish.specs.Listing.{Change, changes_of, changes, reachable, all_reachable}
use Rattle.values.specs.Values.{equal}
use Rattle.values.specs.Values.Laws.{equal-refl}

-- parameter `number` of ps differs from its target, and no line can set it
pub record Beyond (t : List ℕ) (ps : List Parameter) (vs xs : List ℤ) : Type 0 where
  pub number : ℕ
  pub parameter : Parameter
  pub found : parameter_at ps number ≡ Some parameter
  pub blocked : reachable t parameter ≡ false
  pub differs : get_or vs number (pos 0) ≡ get_or xs number (pos 0) → ⊥

pub beyond : (t : List ℕ) (ps : List Parameter) (vs xs : List ℤ) → all_reachable t (changes_of ps vs xs) ≡ false → Beyond t ps vs xs
unfolding changes_of all_reachable
beyond t [] vs xs e = absurd (true≢false e)
beyond t (p ∷ ps) [] xs e = absurd (true≢false e)
beyond t (p ∷ ps) (v ∷ vs) [] e = absurd (true≢false e)
beyond t (p ∷ ps) (v ∷ vs) (x ∷ xs) e = go (equal v x) (reachable t p) refl refl e (beyond t ps vs xs)
  where
    c : Change
    c = record { parameter = p; present = v; target = x }

    cs : List Change
    cs = changes_of ps vs xs

    further : Beyond t ps vs xs → Beyond t (p ∷ ps) (v ∷ vs) (x ∷ xs)
    further b =
        record {
          number = suc b.number;
          parameter = b.parameter;
          found = element_later p ps b.number ∙ b.found;
          blocked = b.blocked;
          differs = b.differs;
        }

    go : (q r : Bool) → equal v x ≡ q → reachable t p ≡ r → all_reachable t (cond q cs (c ∷ cs)) ≡ false
        → (all_reachable t cs ≡ false → Beyond t ps vs xs) → Beyond t (p ∷ ps) (v ∷ vs) (x ∷ xs)
    go true r q b h below = further (below h)
    go false true q b h below = further (below (rw b at h))
    go false false q b h below =
        record {
          number = 0;
          parameter = p;
          found = element_first p ps;
          blocked = b;
          differs = λ s. true≢false (sym (equal-refl x) ∙ ap (λ y. equal y x) (sym s) ∙ q);
        }

-- of a wish
pub wish_beyond : (w : Wish) → all_reachable w.room.table (changes w) ≡ false → Beyond w.room.table (parameters w.room.table) w.present (target w)
unfolding changes
wish_beyond w e = beyond w.room.table (parameters w.room.table) w.present (target w) e
