-- A field: the bytes at its beginning that may stand in a label are the label, where only zero bytes follow.
use Rattle.std.proofs.Math.Path.{◌≡◌, sym}
use Rattle.std.specs.Prelude.{refl, Bool, cond, ◌&&◌, List, [], ◌∷◌, ℕ, zero, suc, ◌+◌, ◌-◌, ◌≤◌, ◌<◌, eqb, get_or, take, drop}
use Rattle.std.proofs.Common.{ap, ◌∙◌, add-zero, add-one, arith, drop_of_length-le, length-drop, drop-cons, get_or-drop}
use Rattle.std.proofs.Math.Bool.{true, false}
use Prim.Native.Nat.compare
use borrow.Author.Tests.{eqb-true, le-leb, ne_eqb}
use Rattle.std.proofs.Math.ListN.{length}
use Rattle.std.proofs.Math.Seq.{length-take-le}
use Rattle.text.specs.Cut.{before, index_of}
use Rattle.text.specs.Cut.First.{before_at, before-length, index_at}
use Rattle.text.specs.Cut.Laws.{index_found, index_none, index_within}
use Rattle.text.specs.Every.Laws.{both_right, every-both, every-cons, every_more, every-nil}
use Rattle.text.specs.Every.{every}
use Rattle.record.specs.Field.Bytes.{Right, field_label, label_byte_lem, label_right_lem}
use Rattle.record.specs.Field.{field_sound, is_zero, label_byte, label_right}
use Rattle.record.specs.Field.Tally.{tally, tally-every}

-- how many bytes at the beginning meet a test
unfoldable pub run : (ℕ → Bool) → List ℕ → ℕ
run test [] = 0
run test (b ∷ s) = cond (test b) (suc (run test s)) 0

run-within : (test : ℕ → Bool) (s : List ℕ) → run test s ≤ length s
unfolding run
run-within test [] = omega arith
run-within test (b ∷ s) = go (test b) (run-within test s)
  where
    go : (t : Bool) → run test s ≤ length s → cond t (suc (run test s)) 0 ≤ suc (length s)
    go true h = omega arith
    go false h = omega arith

run-each : (test : ℕ → Bool) (s : List ℕ) → every test (take (run test s) s) ≡ true
unfolding run
run-each test [] = every-nil test
run-each test (b ∷ s) = go (test b) refl (run-each test s)
  where
    go : (t : Bool) → test b ≡ t → every test (take (run test s) s) ≡ true → every test (take (cond t (suc (run test s)) 0) (b ∷ s)) ≡ true
    go true e h = every_more test b (take (run test s) s) e h
    go false e h = every-nil test

-- every byte meets the test where as many at the beginning do as there are
pub run-every : (test : ℕ → Bool) (s : List ℕ) → eqb (run test s) (length s) ≡ every test s
unfolding run
run-every test [] = sym (every-nil test)
run-every test (b ∷ s) = go (test b) (run-every test s) ∙ sym (every-cons test b s)
  where
    go : (t : Bool) → eqb (run test s) (length s) ≡ every test s → eqb (cond t (suc (run test s)) 0) (suc (length s)) ≡ (t && every test s)
    go true h = simp compare.suc-suc h
    go false h = ne_eqb 0 (suc (length s)) (λ q. omega arith)

-- the run is i bytes long where these meet the test, and then comes the end, or a byte that does not
run_at : (test : ℕ → Bool) (i : ℕ) (s : List ℕ) → i ≤ length s → every test (take i s) ≡ true → (i < length s → test (get_or s i 0) ≡ false) → run test s ≡ i
unfolding run
run_at test zero [] l e n = refl
run_at test zero (b ∷ s) l e n = rw (n (omega arith))
run_at test (suc i) [] l e n = absurd (omega arith)
run_at test (suc i) (b ∷ s) l e n =
    let k = every-both test b (take i s) e in
    rw k.0 (ap suc (run_at test i s (omega arith) k.1 (λ h. n (omega arith))))

-- ---- the pass over the bytes

run-cons : (test : ℕ → Bool) (b : ℕ) (s : List ℕ) (t : Bool) → test b ≡ t → run test (b ∷ s) ≡ cond t (suc (run test s)) 0
unfolding run
run-cons test b s t e = rw e

-- the bytes before i meet the test
pub record Running (test : ℕ → Bool) (s : List ℕ) (i : ℕ) : Type 0 where
  pub within : i ≤ length s
  pub rest : run test s ≡ i + run test (drop i s)

pub run_start : (test : ℕ → Bool) (s : List ℕ) → Running test s 0
run_start test s = record { within = omega arith; rest = omega arith }

module _ (s : List ℕ) (i : ℕ) (t : Bool) (p : Running label_byte s i) (l : i < length s) (e : t ≡ label_byte (get_or s i 0)) where
  pub run_next : t ≡ true → Running label_byte s (i + 1)
  run_next y =
      let c = run-cons label_byte (get_or s i 0) (drop (i + 1) s) true (sym e ∙ y) in
      record { within = omega arith; rest = p.rest ∙ rw (drop-cons s i 0 l, ← add-one i, c) (omega arith) }

  pub run_stop : t ≡ false → i ≡ run label_byte s
  run_stop y =
      let c = run-cons label_byte (get_or s i 0) (drop (i + 1) s) false (sym e ∙ y) in
      sym (p.rest ∙ rw (drop-cons s i 0 l, ← add-one i, c) (omega arith))

-- a byte above the quote
plain : (b : ℕ) → 34 < b → b ≤ 126 → label_byte b ≡ true
unfolding label_byte
plain b l h = rw (le-leb 32 b (omega arith), le-leb b 126 h, ne_eqb b 34 (λ e. omega arith)) refl

pub run_plain : (s : List ℕ) (i : ℕ) → Running label_byte s i → i < length s → 34 < get_or s i 0 → get_or s i 0 ≤ 126 → Running label_byte s (i + 1)
run_plain s i p l a b = run_next s i true p l (sym (plain (get_or s i 0) a b)) refl

pub run_all : (s : List ℕ) (i : ℕ) → Running label_byte s i → length s ≤ i → length s ≡ run label_byte s
unfolding run
run_all s i p l =
    let n : run label_byte s ≡ i = p.rest ∙ rw (drop_of_length-le s l) (omega arith) in
    omega (arith, p.within, n)

pub ruleset running = (run_start, run_next, run_plain, run_stop, run_all)

-- ---- the label ends where the pass does

-- no label has a zero byte
zero_no_label : label_byte 0 ≡ false
unfolding label_byte
zero_no_label = refl

-- the first of some bytes that are all zero, or their end
first-zero : (s : List ℕ) → every is_zero s ≡ true → get_or s 0 0 ≡ 0
unfolding is_zero
first-zero [] h = refl
first-zero (b ∷ s) h = eqb-true b 0 (every-both is_zero b s h).0

-- where only zero bytes follow
run-zeros : (f : List ℕ) → every is_zero (drop (run label_byte f) f) ≡ true → index_of 0 f ≡ run label_byte f
run-zeros f h =
    let i = run label_byte f in
    let none = index_none label_byte 0 (take i f) (run-each label_byte f) zero_no_label in
    let z = first-zero (drop i f) h in
    index_at 0 i f (run-within label_byte f) none (rw (get_or-drop i f 0 0, add-zero i) at z)

-- no zero byte is passed
run-tally : (f : List ℕ) → tally is_zero f ≡ tally is_zero (drop (run label_byte f) f)
unfolding run tally is_zero
run-tally [] = refl
run-tally (b ∷ s) = go (label_byte b) refl (run-tally s)
  where
    go : (t : Bool) → label_byte b ≡ t → tally is_zero s ≡ tally is_zero (drop (run label_byte s) s)
        → tally is_zero (b ∷ s) ≡ tally is_zero (drop (cond t (suc (run label_byte s)) 0) (b ∷ s))
    go true e next = let p = label_byte_lem b e in rw (ne_eqb b 0 (λ q. omega arith)) next
    go false e next = refl

-- where the bytes before the first zero byte are a label's
run-label : (f : List ℕ) → every label_byte (before 0 f) ≡ true → run label_byte f ≡ index_of 0 f
run-label f h =
    run_at label_byte (index_of 0 f) f (index_within 0 f) (rw (before_at 0 f (index_of 0 f) refl) at h)
    (λ l. rw (index_found 0 f) zero_no_label)

record Held (f : List ℕ) : Type 0 where
  label : Right (before 0 f)
  zeros : every is_zero (drop (index_of 0 f) f) ≡ true

held : (f : List ℕ) → field_sound f ≡ true → Held f
unfolding field_sound
held f h =
    record {
      label = label_right_lem (before 0 f) (field_label f h);
      zeros = both_right (label_right (before 0 f)) (every is_zero (drop (index_of 0 f) f)) h;
    }

by_not : (b : Bool) → (b ≡ true → ⊥) → false ≡ b
by_not true n = absurd (n refl)
by_not false n = refl

module _ (f : List ℕ) (end : ℕ) (e : end ≡ run label_byte f) where
  ends : Held f → end ≡ index_of 0 f
  ends h = e ∙ run-label f h.label.each

  pub field_within : end ≤ length f
  field_within = omega (arith, run-within label_byte f)

  -- shorter than a bound of at most 1, or longer than one of at least 32
  pub field_empty : (k : ℕ) → k ≤ 1 → end < k → false ≡ field_sound f
  field_empty k b l =
      by_not (field_sound f)
      (λ q. let h = held f q in omega (arith, ends h, h.label.least, before-length 0 f))

  pub field_long : (k : ℕ) → 32 ≤ k → k < end → false ≡ field_sound f
  field_long k b l =
      by_not (field_sound f)
      (λ q. let h = held f q in omega (arith, ends h, h.label.most, before-length 0 f))

  field_rest : (r : Bool) → 1 ≤ end → end ≤ 32 → r ≡ every is_zero (drop end f) → r ≡ field_sound f
  unfolding field_sound label_right
  field_rest true a b z =
      let i : index_of 0 f ≡ end = run-zeros f (rw e at (sym z)) ∙ sym e in
      let n : length (take end f) ≡ end = length-take-le end f field_within in
      let t : every label_byte (take end f) ≡ true = rw (sym e) at (run-each label_byte f) in
      rw (before_at 0 f end i, i, n, le-leb 1 end a, le-leb end 32 b, t) z
  field_rest false a b z =
      by_not (field_sound f)
      (λ q. let h = held f q in let c : false ≡ true = z ∙ rw (sym (ends h)) at h.zeros in let k : ◌≡◌ {A = ℕ} 0 1 = cc in omega arith)

  -- no byte before its end is zero, so all behind it are where the zero bytes are as many
  pub field_counted : (zeros : ℕ) → 1 ≤ end → end ≤ 32 → zeros ≡ tally is_zero f → eqb zeros (length f - end) ≡ field_sound f
  field_counted zeros a b z =
      let n : length (drop end f) ≡ length f - end = length-drop end f in
      let t : zeros ≡ tally is_zero (drop end f) = z ∙ rw e (run-tally f) in
      field_rest (eqb zeros (length f - end)) a b (rw (t, ← n) (sym (tally-every (drop end f))))

pub ruleset fields = (field_within, field_empty, field_long, field_counted)
