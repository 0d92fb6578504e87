-- A label by its length: it is the part of the table from its field's start on, and lies within its field; and its bytes by their places.
use Rattle.std.specs.Prelude.{◌≡◌, List, ℕ, ◌+◌, ◌-◌, ◌≤◌, ◌<◌, length, get_or, take}
use Rattle.std.proofs.Common.{sym, ◌∙◌, get_or-drop, get_or-take, take-take, Fits}
use native.Mathlib.Omega.{arith}
use Rattle.std.proofs.Math.ListN.{drop, length-take}
use Rattle.std.specs.Int.{w64}
use Rattle.text.specs.Cut.{before}
use Rattle.text.specs.Cut.First.{before-byte, before-short, before-taken}
use Rattle.room.specs.declared.table.Module.{Module}
use Rattle.room.specs.Label.{label}

-- the length that was counted is the label's
pub label-long : (t : List ℕ) (m : Module) (n : ℕ) → n ≡ length (before 0 (take 32 (drop (m.place + 1) t))) → n ≡ length (label t m)
unfolding label
label-long t m n e = e

module _ (t : List ℕ) (m : Module) (n : ℕ) (e : n ≡ length (label t m)) where
  pub label-short : n ≤ 32
  unfolding label
  label-short = omega (arith, before-short 0 (take 32 (drop (m.place + 1) t)), length-take 32 (drop (m.place + 1) t))

  -- the part of the table that is the label
  pub label-part : take (m.place + 1 + n - (m.place + 1)) (drop (m.place + 1) t) ≡ label t m
  unfolding label
  label-part =
      let d = drop (m.place + 1) t in
      let h = label-short in
      let z : m.place + 1 + n - (m.place + 1) ≡ n = omega arith in
      rw z (sym (take-take n 32 d h) ∙ rw e (before-taken 0 (take 32 d)))

  pub label_inside : m.place + 33 ≤ length t → m.place + 1 + n ≤ length t
  label_inside h = let s = label-short in omega arith

  pub label-end_fits : m.place + 33 ≤ length t → Fits w64 (length t) → Fits w64 (m.place + 1 + n)
  label-end_fits h f = let s = label-short in record { fits = omega (arith, f.fits) }

pub ruleset label-place = (label_inside, label-end_fits)

-- byte i of a label is the table's byte i on from the field's start
pub label_byte_lem : (t : List ℕ) (m : Module) (i : ℕ) → i < length (label t m) → get_or (label t m) i 0 ≡ get_or t (m.place + 1 + i) 0
unfolding label
label_byte_lem t m i l =
    let f = take 32 (drop (m.place + 1) t) in
    let s : i < 32 = omega (arith, before-short 0 f, length-take 32 (drop (m.place + 1) t)) in
    before-byte 0 f i 0 l ∙ get_or-take 32 (drop (m.place + 1) t) i 0 s ∙ get_or-drop (m.place + 1) t i 0
