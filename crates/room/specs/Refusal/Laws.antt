-- Laws of the first refusal, and of the number of one test.
use Rattle.std.specs.Prelude.{◌≡◌, refl, Bool, true, false, cond, List, [], ◌∷◌, ◌++◌, ℕ, zero, suc}
use Rattle.std.proofs.Common.{sym, ◌∙◌, arith}
use Rattle.room.specs.Refusal.{first_refusal, refusal_number}
use Rattle.room.specs.declared.refusal.Refusal.{Refusal}
use Rattle.room.specs.declared.refusal.Refusal.TheVariants.{Table, Values, ReplyBuffer, HeldBytes, Selection, Wanted, OutOfReach, NoRoom, NoSuchChange, Connections}

-- ---- the first of some numbers

pub first-none : first_refusal [] ≡ 0
unfolding first_refusal
first-none = refl

pub first-passed : (n : ℕ) (ns : List ℕ) → n ≡ 0 → first_refusal (n ∷ ns) ≡ first_refusal ns
unfolding first_refusal
first-passed zero ns e = refl
first-passed (suc n) ns e = absurd (omega arith)

pub first_stops : (n : ℕ) (ns : List ℕ) → (n ≡ 0 → ⊥) → first_refusal (n ∷ ns) ≡ n
unfolding first_refusal
first_stops zero ns h = absurd (h refl)
first_stops (suc n) ns h = refl

pub all_passed : (n : ℕ) (ns : List ℕ) → first_refusal (n ∷ ns) ≡ 0 → (n ≡ 0) × (first_refusal ns ≡ 0)
unfolding first_refusal
all_passed zero ns e = (refl, e)
all_passed (suc n) ns e = absurd (omega arith)

pub first-last : (n : ℕ) → first_refusal (n ∷ []) ≡ n
unfolding first_refusal
first-last zero = refl
first-last (suc n) = refl

-- the tests of a call may be made in two parts
pub first-append : (ns ms : List ℕ) → first_refusal (ns ++ ms) ≡ first_refusal (first_refusal ns ∷ ms)
unfolding first_refusal
first-append [] ms = refl
first-append (zero ∷ ns) ms = first-append ns ms
first-append (suc n ∷ ns) ms = refl

-- ---- test by test: each is passed, or the call stops there

pub data Refuses : List ℕ → ℕ → Type 0 where
  all : Refuses [] 0
  passes : {n m : ℕ} {ns : List ℕ} → n ≡ 0 → Refuses ns m → Refuses (n ∷ ns) m
  stops : {n m : ℕ} {ns : List ℕ} → n ≡ suc m → Refuses (n ∷ ns) (suc m)

pub first_by : {ns : List ℕ} {m : ℕ} → Refuses ns m → first_refusal ns ≡ m
first_by all = first-none
first_by (passes {n} {m} {ns} z r) = first-passed n ns z ∙ first_by r
first_by (stops {n} {m} {ns} e) = first_stops n ns (λ z. omega arith) ∙ e

-- ---- rules for code that asks for the numbers in their order, and returns at the first that is not 0

pub told-first : (a n : ℕ) (ns : List ℕ) → a ≡ n → (a ≡ 0 → ⊥) → a ≡ first_refusal (n ∷ ns)
told-first a n ns e h = e ∙ sym (first_stops n ns (λ z. h (e ∙ z)))

pub told-later : (a n m : ℕ) (ns : List ℕ) → a ≡ n → a ≡ 0 → m ≡ first_refusal ns → m ≡ first_refusal (n ∷ ns)
told-later a n m ns e z r = r ∙ sym (first-passed n ns (sym e ∙ z))

pub told-last : (a n : ℕ) → a ≡ n → a ≡ first_refusal (n ∷ [])
told-last a n e = e ∙ sym (first-last n)

-- ---- the same for code that passes the refusal on by `?`

pub refusal-some : (e : Refusal) → refusal_number e ≡ 0 → ⊥
refusal-some Table h = absurd (omega arith)
refusal-some Values h = absurd (omega arith)
refusal-some ReplyBuffer h = absurd (omega arith)
refusal-some HeldBytes h = absurd (omega arith)
refusal-some Selection h = absurd (omega arith)
refusal-some Wanted h = absurd (omega arith)
refusal-some OutOfReach h = absurd (omega arith)
refusal-some NoRoom h = absurd (omega arith)
refusal-some NoSuchChange h = absurd (omega arith)
refusal-some Connections h = absurd (omega arith)

pub told-refusal : (e : Refusal) (n : ℕ) (ns : List ℕ) → refusal_number e ≡ n → refusal_number e ≡ first_refusal (n ∷ ns)
told-refusal e n ns h = told-first (refusal_number e) n ns h (refusal-some e)

pub told-none : (n m : ℕ) (ns : List ℕ) → 0 ≡ n → m ≡ first_refusal ns → m ≡ first_refusal (n ∷ ns)
told-none n m ns h r = told-later 0 n m ns h refl r

pub ruleset refusing = (told-refusal, told-none, told-last)

-- ---- the number of one test

pub test_passed : (b : Bool) (n : ℕ) → b ≡ true → ◌≡◌ {A = ℕ} (cond b 0 n) 0
test_passed b n e = rw e refl

pub test_refused : (b : Bool) (n : ℕ) → b ≡ false → ◌≡◌ {A = ℕ} (cond b 0 n) n
test_refused b n e = rw e refl

pub passed_test : (b : Bool) (n : ℕ) → ◌≡◌ {A = ℕ} (cond b 0 (suc n)) 0 → b ≡ true
passed_test true n e = refl
passed_test false n e = absurd (omega arith)
