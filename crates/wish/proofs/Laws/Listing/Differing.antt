-- The changes between two lists of values: what they are of, what holds of each, and that made one after the other they lead from the one to the other.
use Rattle.std.specs.Prelude.{◌≡◌, refl, Bool, true, false, cond, List, [], ◌∷◌, ◌++◌, ℕ, zero, suc, ◌+◌, ℤ, pos, length, get_or, set, Some}
use Rattle.std.proofs.Common.{sym, ◌∙◌, zero-add, arith, length-append}
use Rattle.std.proofs.Math.Seq.{append_snoc}
use Rattle.std.proofs.lemmas.List.{set_at}
use Rattle.values.specs.Parameters.{parameter_at, parameters, place}
use Rattle.values.specs.Parameters.Elements.{element_first, element_later}
use Rattle.values.specs.Parameters.Places.{at_place}
use Rattle.values.specs.Values.{equal}
use Rattle.values.specs.Values.Laws.{equal-true, values_many}
use Rattle.values.specs.declared.parameter.Parameter.{Parameter}
use Rattle.wish.specs.Target.{Wish, target}
use Rattle.wish.specs.Target.Laws.{target_right}
use Rattle.wish.specs.Listing.{Admitted, Change, changes, changes_of}

-- cs are the changes that take the parameters ps from vs to xs: of each parameter where the two differ, in their order
pub data Differ : List Parameter → (present target : List ℤ) → List Change → Type 0 where
  none : Differ [] [] [] []
  same : (p : Parameter) (v : ℤ) {ps : List Parameter} {vs xs : List ℤ} {cs : List Change} → Differ ps vs xs cs → Differ (p ∷ ps) (v ∷ vs) (v ∷ xs) cs
  other : (p : Parameter) (v x : ℤ) {ps : List Parameter} {vs xs : List ℤ} {cs : List Change} → equal v x ≡ false → Differ ps vs xs cs
      → Differ (p ∷ ps) (v ∷ vs) (x ∷ xs) (record { parameter = p; present = v; target = x } ∷ cs)

changes-differ : (ps : List Parameter) (vs xs : List ℤ) → length vs ≡ length ps → length xs ≡ length ps → Differ ps vs xs (changes_of ps vs xs)
unfolding changes_of
changes-differ [] [] [] a b = none
changes-differ [] [] (x ∷ xs) a b = absurd (omega arith)
changes-differ [] (v ∷ vs) xs a b = absurd (omega arith)
changes-differ (p ∷ ps) [] xs a b = absurd (omega arith)
changes-differ (p ∷ ps) (v ∷ vs) [] a b = absurd (omega arith)
changes-differ (p ∷ ps) (v ∷ vs) (x ∷ xs) a b = go (equal v x) refl (changes-differ ps vs xs (omega arith) (omega arith))
  where
    go : (e : Bool) → equal v x ≡ e → Differ ps vs xs (changes_of ps vs xs)
        → Differ (p ∷ ps) (v ∷ vs) (x ∷ xs) (cond e (changes_of ps vs xs) (record { parameter = p; present = v; target = x } ∷ changes_of ps vs xs))
    go true q d = rw (equal-true v x q) (same p x d)
    go false q d = other p v x q d

-- those of a wish
pub wish_differ : (w : Wish) → Admitted w → Differ (parameters w.room.table) w.present (target w) (changes w)
unfolding changes
wish_differ w a =
    changes-differ (parameters w.room.table) w.present (target w) (values_many w.room w.present a.present)
    (values_many w.room (target w) (target_right w a.present a.wanted))

-- ---- what holds of each parameter with its two values holds of each change

abbrev pub AllOf : (Change → Type 0) → List Change → Type 0
AllOf P [] = Unit
AllOf P (c ∷ cs) = P c × AllOf P cs

pub differ-each : (P : Change → Type 0) {ps : List Parameter} {vs xs : List ℤ} {cs : List Change} → Differ ps vs xs cs
    → ((k : ℕ) (p : Parameter) → parameter_at ps k ≡ Some p → P (record { parameter = p; present = get_or vs k (pos 0); target = get_or xs k (pos 0) }))
    → AllOf P cs
differ-each P none f = tt
differ-each P (same p v {ps = ps} d) f = differ-each P d (λ k q e. f (suc k) q (element_later p ps k ∙ e))
differ-each P (other p v x {ps = ps} n d) f = (f 0 p (element_first p ps), differ-each P d (λ k q e. f (suc k) q (element_later p ps k ∙ e)))

-- ---- the changes, made one after the other

abbrev pub made : List Change → List ℤ → List ℤ
made [] vs = vs
made (c ∷ cs) vs = made cs (set vs (place c.parameter) c.target)

-- the parameters ps stand behind those of the values `before`
abbrev Behind : List ℤ → List Parameter → Type 0
Behind before ps = (k : ℕ) (p : Parameter) → parameter_at ps k ≡ Some p → place p ≡ length before + k

behind_more : (before : List ℤ) (v : ℤ) (p : Parameter) (ps : List Parameter) → Behind before (p ∷ ps) → Behind (before ++ v ∷ []) ps
behind_more before v p ps f k q e =
    let n : length (before ++ v ∷ []) ≡ suc (length before) = rw length-append (omega arith) in
    omega (arith, f (suc k) q (element_later p ps k ∙ e))

made-behind : {ps : List Parameter} {vs xs : List ℤ} {cs : List Change} → Differ ps vs xs cs → (before : List ℤ) → Behind before ps
    → made cs (before ++ vs) ≡ before ++ xs
made-behind none before f = refl
made-behind (same p v {ps = ps} {vs = vs} {xs = xs} d) before f =
    rw (append_snoc before v vs, append_snoc before v xs) at (made-behind d (before ++ v ∷ []) (behind_more before v p ps f))
made-behind (other p v x {ps = ps} {vs = vs} {xs = xs} n d) before f =
    let at : length before ≡ place p = omega (arith, f 0 p (element_first p ps)) in
    rw (set_at before v vs x (place p) at)
    (rw (append_snoc before x vs, append_snoc before x xs) at (made-behind d (before ++ x ∷ []) (behind_more before x p ps f)))

-- each change finds its present value when those before it are made
abbrev pub Finds : List Change → List ℤ → Type 0
Finds [] vs = Unit
Finds (c ∷ cs) vs = (get_or vs (place c.parameter) (pos 0) ≡ c.present) × Finds cs (set vs (place c.parameter) c.target)

here : (before : List ℤ) (v : ℤ) (vs : List ℤ) (k : ℕ) → length before ≡ k → get_or (before ++ (v ∷ vs)) k (pos 0) ≡ v
here [] v vs zero e = refl
here [] v vs (suc k) e = absurd (omega arith)
here (u ∷ before) v vs zero e = absurd (omega arith)
here (u ∷ before) v vs (suc k) e = here before v vs k (omega arith)

finds_behind : {ps : List Parameter} {vs xs : List ℤ} {cs : List Change} → Differ ps vs xs cs → (before : List ℤ) → Behind before ps → Finds cs (before ++ vs)
finds_behind none before f = tt
finds_behind (same p v {ps = ps} {vs = vs} d) before f =
    rw (append_snoc before v vs) at (finds_behind d (before ++ v ∷ []) (behind_more before v p ps f))
finds_behind (other p v x {ps = ps} {vs = vs} n d) before f =
    let at : length before ≡ place p = omega (arith, f 0 p (element_first p ps)) in (
      here before v vs (place p) at,
      rw (set_at before v vs x (place p) at) (rw (append_snoc before x vs) at (finds_behind d (before ++ x ∷ []) (behind_more before x p ps f))),
    )

pub wish_finds : (w : Wish) → Admitted w → Finds (changes w) w.present
wish_finds w a = finds_behind (wish_differ w a) [] (λ k p e. (at_place w.room.table k p e).stands ∙ sym (zero-add k))

-- a wish's changes lead from the present values to the target
pub made-target : (w : Wish) → Admitted w → made (changes w) w.present ≡ target w
made-target w a = made-behind (wish_differ w a) [] (λ k p e. (at_place w.room.table k p e).stands ∙ sym (zero-add k))
