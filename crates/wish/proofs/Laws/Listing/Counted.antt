-- The restore list has as many lines as chosen modules have parameters that differ from the wanted.
use Rattle.std.specs.Prelude.{◌≡◌, refl, Bool, true, false, not, cond, ◌&&◌, List, [], ◌∷◌, ℕ, suc, ℤ, length}
use Rattle.std.proofs.Common.{ap}
use Rattle.values.specs.declared.parameter.Parameter.{Parameter}
use Rattle.values.specs.Parameters.{parameters}
use Rattle.wish.specs.Target.{Wish, chosen, target, target_of, differing}
use Rattle.wish.specs.Listing.{Change, changes, changes_of}
use Rattle.values.specs.Values.{equal}
use Rattle.values.specs.Values.Laws.{equal-refl}

changes-differing : (selection : List ℕ) (ps : List Parameter) (vs ws : List ℤ)
    → length (changes_of ps vs (target_of selection ps vs ws)) ≡ differing selection ps vs ws
unfolding changes_of target_of differing
changes-differing selection [] vs ws = refl
changes-differing selection (p ∷ ps) [] ws = refl
changes-differing selection (p ∷ ps) (v ∷ vs) [] = refl
changes-differing selection (p ∷ ps) (v ∷ vs) (w ∷ ws) = go (chosen selection p) (equal v w) refl (changes-differing selection ps vs ws)
  where
    rest : List Change
    rest = changes_of ps vs (target_of selection ps vs ws)

    go : (c e : Bool) → equal v w ≡ e → length rest ≡ differing selection ps vs ws
        → length (cond (equal v (cond c w v)) rest (record { parameter = p; present = v; target = cond c w v } ∷ rest))
        ≡ cond (c && not (equal v w)) (suc (differing selection ps vs ws)) (differing selection ps vs ws)
    go true true q h = rw q h
    go true false q h = rw q (ap suc h)
    go false e q h = rw (equal-refl v) h

pub lines_differing : (w : Wish) → length (changes w) ≡ differing w.selection (parameters w.room.table) w.present w.wanted
unfolding changes target
lines_differing w = changes-differing w.selection (parameters w.room.table) w.present w.wanted
