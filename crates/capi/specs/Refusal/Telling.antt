-- Rules for the code that puts an answer's words.
use Rattle.std.specs.Prelude.{◌≡◌, List, ◌++◌, ℕ, zero, suc, ◌+◌, ◌-◌, ◌≤◌, length, drop, get_or, replicate}
use Rattle.std.proofs.Common.{sym, ap, ◌∙◌, zero-add, arith}
use Rattle.std.proofs.lemmas.List.{length-replicate}
use Rattle.std.proofs.Math.ListN.{get_or-eq_default}
use Rattle.text.specs.Written.{Wrote}
use Rattle.text.specs.Written.Laws.{wrote_between}
use Rattle.capi.specs.Refusal.{no_words, padded, refusal_text, words}

drop-replicate : (n m b : ℕ) → drop n (replicate m b) ≡ replicate (m - n) b
drop-replicate zero m b = ap (λ k. replicate k b) (let z : m ≡ m - 0 = omega arith in z)
drop-replicate (suc n) zero b = ap (λ k. replicate k b) (let z : 0 ≡ 0 - suc n = omega arith in z)
drop-replicate (suc n) (suc m) b = drop-replicate n m b ∙ ap (λ k. replicate k b) (let z : m - n ≡ suc m - suc n = omega arith in z)

-- ---- the words, and zero bytes behind them

pub words-room : (l s : List ℕ) → length l ≡ 64 → length s ≤ 64 → 0 + length s ≤ length l
words-room l s e h = omega arith

pub words-padded : (s : List ℕ) (r : ℕ) (m : List ℕ) → length s ≤ 64 → Wrote (replicate 64 0) 0 s r m → m ≡ padded s
unfolding padded
words-padded s r m h w =
    let b = wrote_between w (omega (arith, length-replicate {A = ℕ} 64 0)) in
    let d : drop {A = ℕ} (0 + length s) (replicate 64 0) ≡ replicate (64 - length s) 0 = rw zero-add (drop-replicate (length s) 64 0) in
    b ∙ ap (λ rest. s ++ rest) d

pub ruleset padding = (words-room, words-padded)

-- ---- which words

-- of a number that has words of its own
pub words-told : (n k : ℕ) (m : List ℕ) → n ≡ k → m ≡ padded (get_or words k no_words) → m ≡ refusal_text n
unfolding refusal_text
words-told n k m e h = h ∙ ap (λ i. padded (get_or words i no_words)) (sym e)

past : (n k : ℕ) → k ≤ n → (n ≡ k → ⊥) → suc k ≤ n
past n k h e = omega (arith, e)

-- of any other
pub words-none : (n : ℕ) (m : List ℕ) → (n ≡ 0 → ⊥) → (n ≡ 1 → ⊥) → (n ≡ 2 → ⊥) → (n ≡ 3 → ⊥) → (n ≡ 4 → ⊥) → (n ≡ 5 → ⊥) → (n ≡ 6 → ⊥) → (n ≡ 7 → ⊥) → (n ≡ 8 → ⊥)
    → (n ≡ 9 → ⊥) → (n ≡ 10 → ⊥) → m ≡ padded no_words → m ≡ refusal_text n
unfolding refusal_text
words-none n m a b c d e f g h i j k q =
    let l = past n 10 (past n 9 (past n 8 (past n 7 (past n 6 (past n 5 (past n 4 (past n 3 (past n 2 (past n 1 (past n 0 (omega arith) a) b) c) d) e) f) g) h) i) j) k in
    q ∙ ap padded (sym (get_or-eq_default words no_words l))

pub ruleset telling = (words-told, words-none)
