-- Laws of the target list: as long as the value list, what it is at each place, and that it is right in the room.
use Rattle.std.specs.Prelude.{◌≡◌, refl, Bool, not, cond, ◌||◌, List, [], ◌∷◌, ℕ, zero, suc, ◌<◌, ℤ, pos, length, get_or, Some}
use Rattle.std.proofs.Common.{ap, arith}
use Rattle.std.proofs.Math.Bool.{true, false}
use Rattle.catalogue.specs.Row.{permitted}
use Rattle.values.specs.Parameters.{parameter_at, parameters}
use Rattle.values.specs.Parameters.Elements.{at-element}
use Rattle.values.specs.Room.{row_in}
use Rattle.values.specs.Values.{values_sound}
use Rattle.values.specs.Values.Laws.{at-inside, value_permitted, values_many, values_permitted}
use Rattle.values.specs.Values.Tested.{tested_at}
use Rattle.values.specs.declared.parameter.Parameter.{Parameter}
use Rattle.wish.specs.Target.{Wish, chosen, wanted_right, target_of, target}
use Rattle.wish.specs.Target.Wanting.{chosen-tests, wanted_each, wanted_long}

target-length : (selection : List ℕ) (ps : List Parameter) (vs ws : List ℤ) → length vs ≡ length ps → length ws ≡ length ps
    → length (target_of selection ps vs ws) ≡ length ps
unfolding target_of
target-length selection [] vs ws a b = refl
target-length selection (p ∷ ps) [] ws a b = absurd (omega arith)
target-length selection (p ∷ ps) (v ∷ vs) [] a b = absurd (omega arith)
target-length selection (p ∷ ps) (v ∷ vs) (w ∷ ws) a b = ap suc (target-length selection ps vs ws (omega arith) (omega arith))

-- at each place: the wanted value of a chosen module's parameter, and the present one of any other
target_at : (selection : List ℕ) (ps : List Parameter) (vs ws : List ℤ) (k : ℕ) (d : Parameter)
    → length vs ≡ length ps → length ws ≡ length ps → k < length ps
    → get_or (target_of selection ps vs ws) k (pos 0) ≡ cond (chosen selection (get_or ps k d)) (get_or ws k (pos 0)) (get_or vs k (pos 0))
unfolding target_of
target_at selection [] vs ws k d a b h = absurd (omega arith)
target_at selection (p ∷ ps) [] ws k d a b h = absurd (omega arith)
target_at selection (p ∷ ps) (v ∷ vs) [] k d a b h = absurd (omega arith)
target_at selection (p ∷ ps) (v ∷ vs) (w ∷ ws) zero d a b h = refl
target_at selection (p ∷ ps) (v ∷ vs) (w ∷ ws) (suc k) d a b h = target_at selection ps vs ws k d (omega arith) (omega arith) (omega arith)

module _ (w : Wish) (a : values_sound w.room w.present ≡ true) (b : wanted_right w.room w.selection w.wanted ≡ true) where
  -- permitted: a chosen module's entry is, and so is a present value
  permitted-at : (k : ℕ) (p : Parameter) → parameter_at (parameters w.room.table) k ≡ Some p → permitted (row_in w.room p) (get_or (target w) k (pos 0)) ≡ true
  unfolding target
  permitted-at k p e =
      let t = w.room.table in
      let n = wanted_long w.room w.selection w.wanted b in
      let c =
      tested_at (chosen-tests w.room w.selection) (parameters t) w.wanted k p (omega arith)
      (wanted_each w.room w.selection w.wanted b) e in
      rw (
        target_at w.selection (parameters t) w.present w.wanted k p (values_many w.room w.present a) n (at-inside (parameters t) k p e),
        at-element (parameters t) k p p e,
      )
      (one (chosen w.selection p) (value_permitted w.room w.present k p a e) c)
    where
      one : (c : Bool) → permitted (row_in w.room p) (get_or w.present k (pos 0)) ≡ true → (not c || permitted (row_in w.room p) (get_or w.wanted k (pos 0))) ≡ true
          → permitted (row_in w.room p) (cond c (get_or w.wanted k (pos 0)) (get_or w.present k (pos 0))) ≡ true
      one true v h = h
      one false v h = v

  pub target_right : values_sound w.room (target w) ≡ true
  target_right = values_permitted w.room (target w) many permitted-at
    where
      many : length (target w) ≡ length (parameters w.room.table)
      many =
          unfold target in
          target-length w.selection (parameters w.room.table) w.present w.wanted (values_many w.room w.present a)
          (wanted_long w.room w.selection w.wanted b)
