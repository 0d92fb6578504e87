-- The set line of the restore list is the line that sets a part; which part that is.
use Rattle.std.specs.Prelude.{◌≡◌, refl, List, [], ◌∷◌, ℕ, zero, suc, ◌≤◌, ℤ, nat_abs}
use Rattle.std.proofs.Common.{arith}
use Rattle.text.specs.Word.{differing}
use Rattle.text.specs.Word.Apart as word
use Rattle.text.specs.Word.Apart.{only_told}
use Rattle.catalogue.specs.Groups.{PartIn}
use Rattle.catalogue.specs.declared.groups.Part.{Part}
use Rattle.catalogue.specs.declared.groups.Part.TheVariants.{Whole, Output}
use Rattle.catalogue.specs.declared.row.Kind.{Kind}
use Rattle.catalogue.specs.declared.row.Kind.TheVariants as kind
use Rattle.values.specs.declared.parameter.Parameter.{Parameter}
use Rattle.spelling.specs.Line.{line_for}
use Rattle.spelling.specs.Say.{output_or, say, said_part}

pub say-line : (t : List ℕ) (p : Parameter) (v x : ℤ) → say t p v x ≡ line_for 0x53 t p (said_part p.row.kind v x) x
unfolding say
say-line t p v x = refl

-- ---- which part

-- the whole, but of a routing word in which one output alone differs that output
pub data SaidBy (k : Kind) (v x : ℤ) : Part → Type 0 where
  plain : (k ≡ kind.Word → ⊥) → SaidBy k v x Whole
  same : k ≡ kind.Word → differing (nat_abs v) (nat_abs x) ≡ [] → SaidBy k v x Whole
  alone : (o : ℕ) → k ≡ kind.Word → 1 ≤ o → o ≤ 32 → differing (nat_abs v) (nat_abs x) ≡ o ∷ [] → SaidBy k v x (Output o)
  more : (o q : ℕ) (os : List ℕ) → k ≡ kind.Word → differing (nat_abs v) (nat_abs x) ≡ o ∷ q ∷ os → SaidBy k v x Whole

pub said-by : (k : Kind) (v x : ℤ) → SaidBy k v x (said_part k v x)
unfolding said_part output_or
said-by kind.Level v x = plain (λ e. let z : ◌≡◌ {A = ℕ} 0 1 = cc in omega arith)
said-by kind.Switch v x = plain (λ e. let z : ◌≡◌ {A = ℕ} 0 1 = cc in omega arith)
said-by kind.Number v x = plain (λ e. let z : ◌≡◌ {A = ℕ} 0 1 = cc in omega arith)
said-by kind.Word v x = go (only_told (nat_abs v) (nat_abs x))
  where
    go : {o : ℕ} → word.Differ (nat_abs v) (nat_abs x) o → SaidBy kind.Word v x (output_or o)
    go (word.same e) = same refl e
    go (word.alone zero l m e) = absurd (omega arith)
    go (word.alone (suc o) l m e) = alone (suc o) refl l m e
    go (word.more o q os e) = more o q os refl e

-- what is not a routing word is said whole
pub said-whole : (k : Kind) (v x : ℤ) → (k ≡ kind.Word → ⊥) → said_part k v x ≡ Whole
unfolding said_part
said-whole kind.Level v x h = refl
said-whole kind.Switch v x h = refl
said-whole kind.Number v x h = refl
said-whole kind.Word v x h = absurd (h refl)

pub whole_in : PartIn Whole
whole_in =
    record {
      some = λ o e. absurd (let z : ◌≡◌ {A = ℕ} 0 1 = cc in omega arith);
      most = λ o e. absurd (let z : ◌≡◌ {A = ℕ} 0 1 = cc in omega arith);
    }

pub output_in : (o : ℕ) → 1 ≤ o → o ≤ 32 → PartIn (Output o)
output_in o l m =
    record {
      some = λ q e. let f : o ≡ q = cc in omega arith;
      most = λ q e. let f : o ≡ q = cc in omega arith;
    }

-- an output that is said is one of 32
pub said_in : (k : Kind) (v x : ℤ) → PartIn (said_part k v x)
said_in k v x = go (said-by k v x)
  where
    go : {part : Part} → SaidBy k v x part → PartIn part
    go (plain h) = whole_in
    go (same h e) = whole_in
    go (alone o h l m e) = output_in o l m
    go (more o q os h e) = whole_in
