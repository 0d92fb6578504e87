-- The price of a routing word: nothing where no output differs, the line for the output where one alone does, else the word's line. No line that sets the
-- word spares more than its bytes, and so no mixture of lines for outputs and for the word is shorter.
use Rattle.std.specs.Prelude.{◌≡◌, Bool, true, List, [], ◌∷◌, ℤ, pos, nat_abs, Some}
use Rattle.std.proofs.Math.Path.{refl}
use Rattle.std.proofs.Common.{sym, ◌∙◌, ap, true≢false, arith}
use Rattle.std.proofs.Math.Bool.{false}
use Prim.Native.Nat.{ℕ, suc, ◌+◌, ◌≤◌, ◌<◌, ◌^◌}
use Rattle.std.proofs.Math.ListN.{length}
use Rattle.text.specs.Word.{differing, with_bit}
use Rattle.text.specs.Word.Apart.{OnlyAt, nowhere, there, differ-not, differ-nowhere, put_nowhere}
use Rattle.catalogue.specs.Catalogue.{known_layout}
use Rattle.catalogue.specs.declared.groups.Part.{Part}
use Rattle.catalogue.specs.declared.groups.Part.TheVariants.{Whole, Output}
use Rattle.catalogue.specs.declared.row.Kind.TheVariants.{Word}
use Rattle.values.specs.Parameters.{parameters_of, parameter_at}
use Rattle.values.specs.Values.{equal}
use Rattle.values.specs.Values.Laws.{equal-refl, equal-true}
use Rattle.values.specs.declared.parameter.Parameter.{Parameter}
use Rattle.spelling.specs.Line.{line_for}
use Rattle.spelling.specs.Say.{say}
use Rattle.spelling.specs.Say.Laws.{SaidBy, plain, same, alone, more, said-by, say-line}
use Rattle.line.specs.Said.Fewest.{pair_shorter, pairs-longer, words-alike, pairs-alike}
use Rattle.line.specs.Said.Price.{Costs, by_whole, by_output}
use Rattle.restore.specs.Demand.Lines.{price}

-- one output, or none
few : (o : ℕ) {os : List ℕ} → OnlyAt o os → length os ≤ 1
few o nowhere = omega arith
few o there = omega arith

only_that : (o q : ℕ) → OnlyAt o (q ∷ []) → q ≡ o
only_that o q h = go h refl
  where
    go : {os : List ℕ} → OnlyAt o os → os ≡ q ∷ [] → q ≡ o
    go nowhere e = absurd (let z : ◌≡◌ {A = ℕ} 0 1 = cc in omega arith)
    go there e = (cc)

-- a word: not negative, and of 32 bits
pub record IsWord (v : ℤ) : Type 0 where
  pub natural : pos (nat_abs v) ≡ v
  pub small : nat_abs v < 2 ^ 32

module _ (t : List ℕ) (p : Parameter) (known : known_layout p.owner.layout ≡ true) (own : parameter_at (parameters_of p.owner) p.number ≡ Some p)
    (word : p.row.kind ≡ Word) where
  -- what it costs to take the word from v to x, by the outputs in which they differ
  data Priced (x v : ℤ) : Type 0 where
    free : price t p x v ≡ 0 → differing (nat_abs v) (nat_abs x) ≡ [] → Priced x v
    pair : (o : ℕ) → o ≤ 32 → price t p x v ≡ suc (length (line_for 0x53 t p (Output o) x)) → differing (nat_abs v) (nat_abs x) ≡ o ∷ [] → Priced x v
    whole : (o q : ℕ) (os : List ℕ) → price t p x v ≡ suc (length (line_for 0x53 t p Whole x)) → differing (nat_abs v) (nat_abs x) ≡ o ∷ q ∷ os → Priced x v

  priced : (x v : ℤ) → IsWord x → IsWord v → Priced x v
  unfolding price
  priced x v a b = go (equal v x) refl
    where
      paid : equal v x ≡ false → (u : Part) → length (say t p v x) ≡ length (line_for 0x53 t p u x) → price t p x v ≡ suc (length (line_for 0x53 t p u x))
      paid d u e = rw d (ap suc e)

      apart : equal v x ≡ false → differing (nat_abs v) (nat_abs x) ≡ [] → ⊥
      apart d e =
          let f = differ-nowhere (nat_abs v) (nat_abs x) b.small a.small e in
          let s : v ≡ x = sym b.natural ∙ ap pos f ∙ a.natural in
          true≢false (sym (equal-refl x) ∙ ap (λ y. equal y x) (sym s) ∙ d)

      by : equal v x ≡ false → {u : Part} → SaidBy p.row.kind v x u → length (say t p v x) ≡ length (line_for 0x53 t p u x) → Priced x v
      by d (plain k) e = absurd (k word)
      by d (same k f) e = absurd (apart d f)
      by d (alone o k l m f) e = pair o m (paid d (Output o) e) f
      by d (more o q os k f) e = whole o q os (paid d Whole e) f

      go : (c : Bool) → equal v x ≡ c → Priced x v
      go true d = let s = equal-true v x d in free (rw d) (differ-not (nat_abs v) (nat_abs x) (ap nat_abs s))
      go false d = by d (said-by p.row.kind v x) (ap length (say-line t p v x))

  -- never more than the word's line
  at_most : (x v y : ℤ) → Priced x v → price t p x v ≤ suc (length (line_for 0x53 t p Whole y))
  at_most x v y (free e d) = omega arith
  at_most x v y (pair o m e d) = omega (arith, pair_shorter t p known own word o x y m)
  at_most x v y (whole o q os e d) = omega (arith, words-alike t p known own word x y)

  -- a line for the output o that leaves nothing to pay: nothing or that output was to be paid
  last : (o : ℕ) (x v y : ℤ) → Priced x v → OnlyAt o (differing (nat_abs v) (nat_abs x)) → price t p x v ≤ suc (length (line_for 0x53 t p (Output o) y))
  last o x v y (free e d) h = omega arith
  last o x v y (pair q m e d) h =
      let f = only_that o q (rw d at h) in
      let g : length (line_for 0x53 t p (Output q) x) ≡ length (line_for 0x53 t p (Output o) x) = ap (λ a. length (line_for 0x53 t p (Output a) x)) f in
      omega (arith, pairs-alike t p known own word o x y)
  last o x v y (whole q r os e d) h = let f = rw d at (few o h) in absurd (omega arith)

  -- whatever line takes the word from v to x, it spares no more on the way to the target than its bytes and its 0D
  pub route_fewest : (target v x : ℤ) (l : List ℕ) → IsWord target → IsWord v → IsWord x → Costs t p v x l
      → price t p target v ≤ length l + 1 + price t p target x
  route_fewest target v x l a b c (by_whole h) = omega (arith, at_most target v x (priced target v a b))
  route_fewest target v x l a b c (by_output o bit k some most small e h) = go (priced target x a c)
    where
      from : Priced target v
      from = priced target v a b

      go : Priced target x → price t p target v ≤ length l + 1 + price t p target x
      go (free z d) =
          let n : nat_abs x ≡ with_bit o bit (nat_abs v) = ap nat_abs e in
          let f = put_nowhere o bit (nat_abs v) (nat_abs target) small most (rw n at d) in
          omega (arith, last o target v x from f)
      go (pair q m z d) = omega (arith, z, at_most target v x from, pairs-longer t p known own word o q x target x)
      go (whole q s os z d) = omega (arith, z, at_most target v target from)
