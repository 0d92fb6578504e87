-- How the two restore calls answer: a rule for each return and each call.
use Rattle.std.specs.Prelude.{◌≡◌, refl, true, List, [], ◌∷◌, ℕ, ◌≤◌, ◌<◌, ℤ, length}
use Rattle.std.proofs.Common.{sym, ◌∙◌, arith}
use Rattle.text.specs.Written.{Wrote}
use Rattle.text.specs.Written.Laws.{bytes-by, wrote_nothing}
use Rattle.room.specs.Refusal.{refusal_number}
use Rattle.room.specs.Refusal.Laws.{refusal-some}
use Rattle.room.specs.declared.refusal.Refusal.{Refusal}
use Rattle.wish.specs.Target.{wish_of}
use Rattle.wish.specs.Listing.{Admitted, Change, all_reachable, changes, listing, size_number, test_number}
use Rattle.wish.specs.Listing.Laws.{listing_none}
use Rattle.wish.specs.Listing.Numbers.{test_admits}
use Rattle.wish.specs.Listing.Sizing.{size-admits, size-beyond, size-test, size-within, written_fits, written_refused, written_short}
use Rattle.restore_list.specs.Measuring.{Matching, Measures, all_changes}
use Rattle.restore_list.specs.Measuring.Told.{beyond_told, within-told}
use Rattle.restore_list.specs.Measuring.Walk.{admitted_lists, wish_changes}
use Rattle.restore_list.specs.declared.module_measuring.Measured.{Measured}
use Rattle.restore_list.specs.declared.module_measuring.Measured.TheVariants.{Within, Beyond}
use Rattle.restore.specs.Demand.{Restores, Sizes}
use Rattle.restore.proofs.Laws.Demand.Rules.{returns_listed, returns_refused, sizes-listed, sizes-refused}
use Rattle.restore.proofs.Laws.Demand.Sized.{bytes-accepted, lines_accepted, size-listed, size_none, size-numbered}
use Rattle.restore.specs.Restored.{Restored}

no_change : (cs : List Change) → length cs ≡ 0 → cs ≡ []
no_change [] e = refl
no_change (c ∷ cs) e = absurd (omega arith)

all_zero : (bytes lines number : ℕ) → bytes ≡ 0 → lines ≡ 0 → number ≡ 0
    → ◌≡◌ {A = Restored} (record { bytes = bytes; lines = lines; number = number }) (record { bytes = 0; lines = 0; number = 0 })
all_zero bytes lines number b l i = rw (b, l, i) refl

-- ---- the list measured

module _ (t : List ℕ) (vs : List ℤ) (selection : List ℕ) (ws : List ℤ) (n : ℕ) (e : n ≡ test_number (wish_of t vs selection ws)) where
  pub refuses-test : (r : Restored) → (n ≡ 0 → ⊥) → r ≡ record { bytes = 0; lines = 0; number = n } → Sizes (wish_of t vs selection ws) r
  refuses-test r h k = rw k (sizes-refused (wish_of t vs selection ws) n (size-test (wish_of t vs selection ws) (λ z. h (e ∙ z)) ∙ sym e) h)

  -- every test was passed
  pub admits : n ≡ 0 → Admitted (wish_of t vs selection ws)
  admits h = test_admits (wish_of t vs selection ws) (sym e ∙ h)

pub ruleset testing_call = (refusal-some, refuses-test, admits)

module _ (t : List ℕ) (vs : List ℤ) (selection : List ℕ) (ws : List ℤ) (a : Admitted (wish_of t vs selection ws)) where
  -- its lists match the table
  pub matches : Matching t vs selection ws
  matches = admitted_lists (wish_of t vs selection ws) a

  module _ (f : Measured) (g : Measures t (all_changes t vs selection ws) f) where
    pub refuses-reach : (r : Restored) → f ≡ Beyond → r ≡ record { bytes = 0; lines = 0; number = 7 } → Sizes (wish_of t vs selection ws) r
    refuses-reach r k i =
        let q = beyond_told t (all_changes t vs selection ws) (sym k ∙ g.is) in
        rw i (sizes-refused (wish_of t vs selection ws) 7 (size-beyond (wish_of t vs selection ws) a (rw (wish_changes (wish_of t vs selection ws)) q)) (λ z. omega arith))

    pub returns_size : (r : Restored) (bytes lines : ℕ) → f ≡ Within bytes lines → r ≡ record { bytes = bytes; lines = lines; number = 0 } → Sizes (wish_of t vs selection ws) r
    returns_size r bytes lines k i =
        let q : (all_reachable t (changes (wish_of t vs selection ws)) ≡ true) × (bytes ≡ length (listing t (changes (wish_of t vs selection ws)))) × (lines ≡ length (changes (wish_of t vs selection ws)))
        = rw (wish_changes (wish_of t vs selection ws)) (within-told t (all_changes t vs selection ws) bytes lines (sym k ∙ g.is)) in
        rw i (sizes-listed (wish_of t vs selection ws) bytes lines (size-within (wish_of t vs selection ws) a q.0) q.1 q.2)

pub ruleset measuring_call = (matches, refuses-reach, returns_size)

-- ---- the list written. What is told of bytes and lines says that the wish was accepted, so only a list without a line asks for the number

module _ (t : List ℕ) (vs : List ℤ) (selection : List ℕ) (ws : List ℤ) (buffer : List ℕ) (s : Restored) (h : Sizes (wish_of t vs selection ws) s) where
  pub refuses-size : (k : ℕ) → k < s.number → Restores (wish_of t vs selection ws) buffer s buffer
  refuses-size k n =
      let w = wish_of t vs selection ws in
      let m : size_number w ≡ 0 → ⊥ = λ z. omega (arith, size-numbered h) in
      returns_refused w buffer s s.number (written_refused w (length buffer) m ∙ size-numbered h) (λ z. omega arith) refl (size_none h m).0 (size_none h m).1

  pub refuses-room : (r : Restored) → length buffer < s.bytes → r ≡ record { bytes = 0; lines = 0; number = 8 } → Restores (wish_of t vs selection ws) buffer r buffer
  refuses-room r l k =
      let w = wish_of t vs selection ws in
      let z = bytes-accepted h (omega arith) in
      rw k (returns_refused w buffer (record { bytes = 0; lines = 0; number = 8 }) 8 (written_short w (length buffer) z (omega (arith, (size-listed h z).0))) (λ z. omega arith) refl refl refl)

  -- a list without a line is written already
  pub returns_empty : (r : Restored) → s.number ≤ 0 → s.lines ≡ 0 → r ≡ record { bytes = 0; lines = 0; number = 0 } → Restores (wish_of t vs selection ws) buffer r buffer
  returns_empty r i l k =
      let w = wish_of t vs selection ws in
      let z : size_number w ≡ 0 = omega (arith, size-numbered h) in
      let n : changes w ≡ [] = no_change (changes w) (sym (size-listed h z).1 ∙ l) in
      let b : listing t (changes w) ≡ [] = rw n (listing_none t) in
      rw k (returns_listed w buffer (record { bytes = 0; lines = 0; number = 0 }) buffer (written_fits w (length buffer) z (rw b (omega arith))) refl (rw b refl) (rw n refl)
      (rw b (bytes-by (wrote_nothing buffer 0))))

  pub returns_none : s.number ≡ 0 → s.lines ≡ 0 → Restores (wish_of t vs selection ws) buffer s buffer
  returns_none i l =
      let z : size_number (wish_of t vs selection ws) ≡ 0 = omega (arith, size-numbered h) in
      let n : changes (wish_of t vs selection ws) ≡ [] = no_change (changes (wish_of t vs selection ws)) (sym (size-listed h z).1 ∙ l) in
      let b : s.bytes ≡ 0 = (size-listed h z).0 ∙ rw (n, listing_none t) refl in
      returns_empty s (omega arith) l (all_zero s.bytes s.lines s.number b l i)

  module _ (l : s.lines ≡ 0 → ⊥) where
    pub list-matches : Matching t vs selection ws
    list-matches = admitted_lists (wish_of t vs selection ws) (size-admits (wish_of t vs selection ws) (λ i j. omega (arith, lines_accepted h l)))

    module _ (b : s.bytes ≤ length buffer) where
      fits : length (listing t (changes (wish_of t vs selection ws))) ≤ length buffer
      fits = omega (arith, (size-listed h (lines_accepted h l)).0)

      pub list-room : length (listing t (all_changes t vs selection ws)) ≤ length buffer
      list-room = rw (← wish_changes (wish_of t vs selection ws)) fits

      pub returns_list : (n : ℕ) (after : List ℕ) → Wrote buffer 0 (listing t (all_changes t vs selection ws)) n after → Restores (wish_of t vs selection ws) buffer s after
      returns_list n after o =
          let w = wish_of t vs selection ws in
          let z = lines_accepted h l in
          returns_listed w buffer s after (written_fits w (length buffer) z fits) (sym (size-numbered h) ∙ z) (size-listed h z).0 (size-listed h z).1
          (rw (wish_changes w) (bytes-by o))

-- the refusal of the size is handed on
pub refuses-size_by : (t : List ℕ) (vs : List ℤ) (selection : List ℕ) (ws : List ℤ) (buffer : List ℕ) (e : Refusal)
    → Sizes (wish_of t vs selection ws) (record { bytes = 0; lines = 0; number = refusal_number e })
    → Restores (wish_of t vs selection ws) buffer (record { bytes = 0; lines = 0; number = refusal_number e }) buffer
refuses-size_by t vs selection ws buffer e h =
    refuses-size t vs selection ws buffer (record { bytes = 0; lines = 0; number = refusal_number e }) h 0 (omega (arith, refusal-some e))

pub ruleset writing_call = (refuses-size_by, refuses-room, returns_none, list-matches, list-room, returns_list)
