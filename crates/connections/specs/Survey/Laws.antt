-- What looking over a row of 32 notes in the end: which connections are open, and whether every port claims at most 64 bytes.
use Rattle.std.specs.Prelude.{◌≡◌, refl, Bool, ◌&&◌, List, [], ◌∷◌, ◌++◌, ℕ, zero, suc, ◌+◌, ◌<◌, length, take, set}
use Rattle.std.proofs.Common.{sym, ◌∙◌, ap, arith, add-one, length-set}
use Rattle.std.proofs.Math.Bool.{and_assoc, and-true}
use Rattle.text.specs.Every.{every}
use Rattle.text.specs.Every.Laws.{every-nil, every-cons}
use Rattle.connections.specs.Connections.{flags}
use Rattle.connections.specs.Survey.{noted, nothing_noted, surveyed_from}
use Rattle.connections.specs.Turn.{claims_few}
use Rattle.connections.specs.declared.connection.Connection.{Connection}
use Rattle.connections.specs.declared.survey.Survey.{Survey}

few_noted : (i : ℕ) (cs : List Connection) (s : Survey) → (surveyed_from i cs s).few ≡ (s.few && every claims_few cs)
few_noted i [] s = rw (every-nil claims_few) (sym (and-true s.few))
few_noted i (c ∷ cs) s = few_noted (i + 1) cs (noted s i c) ∙ and_assoc s.few (claims_few c) (every claims_few cs) ∙ ap (λ (b : Bool). s.few && b) (sym (every-cons claims_few c cs))

take-set : (l m : List Bool) (i : ℕ) (b : Bool) → i < length l → take (suc i) (set l i b) ++ m ≡ take i l ++ (b ∷ m)
take-set [] m i b h = absurd (omega arith)
take-set (a ∷ l) m zero b h = refl
take-set (a ∷ l) m (suc i) b h = ap (λ (r : List Bool). a ∷ r) (take-set l m i b (omega arith))

take_all : (l : List Bool) → take (length l) l ++ [] ≡ l
take_all [] = refl
take_all (a ∷ l) = ap (λ (r : List Bool). a ∷ r) (take_all l)

flags-noted : (i : ℕ) (cs : List Connection) (s : Survey) → i + length cs ≡ length s.flags → (surveyed_from i cs s).flags ≡ take i s.flags ++ flags cs
unfolding flags
flags-noted i [] s e = let q : i ≡ length s.flags = omega arith in rw q (sym (take_all s.flags))
flags-noted i (c ∷ cs) s e =
    let n = length-set s.flags i c.is_open in
    flags-noted (i + 1) cs (noted s i c) (omega (arith, n))
    ∙ ap (λ (k : ℕ). take k (set s.flags i c.is_open) ++ flags cs) (add-one i)
    ∙ take-set s.flags (flags cs) i c.is_open (omega arith)

-- a row of 32, looked over from the start
pub looked_over : (row : List Connection) → length row ≡ 32 → surveyed_from 0 row nothing_noted ≡ record { few = every claims_few row; flags = flags row }
looked_over row n =
    let f : (surveyed_from 0 row nothing_noted).few ≡ every claims_few row = few_noted 0 row nothing_noted in
    let g : (surveyed_from 0 row nothing_noted).flags ≡ flags row = flags-noted 0 row nothing_noted (omega arith) in
    λ j. record { few = f j; flags = g j }
