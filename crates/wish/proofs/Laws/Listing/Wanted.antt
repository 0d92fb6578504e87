-- The wanted changes of some parameters: of two lists of parameters, and of a module that is chosen or not.
use Rattle.std.specs.Prelude.{◌≡◌, Bool, true, false, cond, ℕ, ◌≤◌, eqb, ℤ, length, get_or, take, drop}
use Rattle.std.proofs.Math.Path.{refl}
use Rattle.std.proofs.Common.{ap, le_of_suc-le-suc, not-suc-le-zero}
use mathlib.Core.List.{List, [], ◌∷◌, ◌++◌}
use Rattle.room.specs.declared.table.Module.{Module}
use Rattle.values.specs.Parameters.{parameters, parameters_of}
use Rattle.values.specs.Parameters.Owned.{Owned, owned}
use Rattle.values.specs.Values.{equal}
use Rattle.values.specs.Values.Laws.{equal-refl}
use Rattle.values.specs.declared.parameter.Parameter.{Parameter}
use Rattle.wish.specs.Target.{Wish, chosen, target, target_of}
use Rattle.wish.specs.Target.Choice.{own-choice}
use Rattle.wish.specs.Listing.{Change, changes, changes_of}
use Rattle.wish.specs.Listing.Wanted.{wanted_changes}

pub wanted_all : (w : Wish) → changes w ≡ wanted_changes w.selection (parameters w.room.table) w.present w.wanted
unfolding changes target
wanted_all w = refl

pub wanted_none : (selection : List ℕ) (vs ws : List ℤ) → wanted_changes selection [] vs ws ≡ []
unfolding changes_of
wanted_none selection vs ws = refl

-- ---- two lists of parameters, one after the other

pub wanted_append : (selection : List ℕ) (ps qs : List Parameter) (vs ws : List ℤ) → length ps ≤ length vs → length ps ≤ length ws
    → wanted_changes selection (ps ++ qs) vs ws
    ≡ wanted_changes selection ps (take (length ps) vs) (take (length ps) ws) ++ wanted_changes selection qs (drop (length ps) vs) (drop (length ps) ws)
unfolding changes_of target_of
wanted_append selection [] qs vs ws h k = refl
wanted_append selection (p ∷ ps) qs [] ws h k = absurd (not-suc-le-zero h)
wanted_append selection (p ∷ ps) qs (v ∷ vs) [] h k = absurd (not-suc-le-zero k)
wanted_append selection (p ∷ ps) qs (v ∷ vs) (w ∷ ws) h k = go (equal v x) (wanted_append selection ps qs vs ws (le_of_suc-le-suc h) (le_of_suc-le-suc k))
  where
    x : ℤ
    x = cond (chosen selection p) w v

    here : Change
    here = record { parameter = p; present = v; target = x }

    both : List Change
    both = wanted_changes selection (ps ++ qs) vs ws

    first : List Change
    first = wanted_changes selection ps (take (length ps) vs) (take (length ps) ws)

    second : List Change
    second = wanted_changes selection qs (drop (length ps) vs) (drop (length ps) ws)

    go : (b : Bool) → both ≡ first ++ second → cond b both (here ∷ both) ≡ cond b first (here ∷ first) ++ second
    go true all = all
    go false all = ap (λ cs. here ∷ cs) all

-- ---- one module: its rows' changes where it is chosen, else none

module _ (selection : List ℕ) (m : Module) where
  unchosen : (ps : List Parameter) (vs ws : List ℤ) → Owned m ps → eqb (get_or selection m.number 0) 1 ≡ false → wanted_changes selection ps vs ws ≡ []
  unfolding changes_of target_of
  unchosen [] vs ws o e = refl
  unchosen (p ∷ ps) [] ws o e = refl
  unchosen (p ∷ ps) (v ∷ vs) [] o e = refl
  unchosen (p ∷ ps) (v ∷ vs) (w ∷ ws) o e = rw (own-choice selection m p o.0, e, equal-refl v) (unchosen ps vs ws o.1 e)

  its_own : (ps : List Parameter) (vs ws : List ℤ) → Owned m ps → eqb (get_or selection m.number 0) 1 ≡ true
      → wanted_changes selection ps vs ws ≡ changes_of ps vs ws
  unfolding changes_of target_of
  its_own [] vs ws o e = refl
  its_own (p ∷ ps) [] ws o e = refl
  its_own (p ∷ ps) (v ∷ vs) [] o e = refl
  its_own (p ∷ ps) (v ∷ vs) (w ∷ ws) o e = rw (own-choice selection m p o.0, e, its_own ps vs ws o.1 e)

  pub wanted_module : (vs ws : List ℤ)
      → wanted_changes selection (parameters_of m) vs ws ≡ cond (eqb (get_or selection m.number 0) 1) (changes_of (parameters_of m) vs ws) []
  wanted_module vs ws = go (eqb (get_or selection m.number 0) 1) refl
    where
      go : (b : Bool) → eqb (get_or selection m.number 0) 1 ≡ b
          → wanted_changes selection (parameters_of m) vs ws ≡ cond b (changes_of (parameters_of m) vs ws) []
      go true e = its_own (parameters_of m) vs ws (owned m) e
      go false e = unchosen (parameters_of m) vs ws (owned m) e
