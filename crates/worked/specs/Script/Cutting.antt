-- Rules for the code that cuts a script at an 0D.
use Rattle.std.specs.Prelude.{◌≡◌, List, ℕ, suc, ◌+◌, ◌≤◌, ◌<◌, length, take}
use Rattle.std.proofs.Math.Path.{refl, sym}
use Rattle.std.proofs.Common.{◌∙◌, add-one, arith, length-take, take_all, Fits}
use Rattle.std.specs.Borrow.{Bor}
use Rattle.std.specs.Int.{w64}
use Rattle.text.specs.Cut.{index_of}
use Rattle.text.specs.Cut.Laws.{index_within}
use Rattle.text.specs.Cut.Part.{part-counts}
use Rattle.line_log.specs.Log.{log_label}
use Rattle.line_log.specs.Log.Laws.{label-alike}
use Rattle.worked.specs.Script.{first_line, through}

-- they are no longer than the script
pub through-most : (bs : List ℕ) → length (through bs) ≤ length bs
unfolding through
through-most bs = simp length-take (omega arith)

-- cut at the first of any byte
module _ (b : ℕ) (bs : List ℕ) (end : ℕ) (e : end ≡ index_of b bs) where
  pub cut_within : end ≤ length bs
  cut_within = omega (arith, index_within b bs)

  pub cut_counts : end ≡ length (take end bs)
  cut_counts = part-counts bs end cut_within

  module _ (h : end ≡ length bs → ⊥) where
    pub behind_fits : length bs < 18446744073709551616 → Fits w64 (end + 1)
    behind_fits k = record { fits = omega (arith, cut_within) }

    pub behind_counts : end + 1 ≡ length (take (end + 1) bs)
    behind_counts = part-counts bs (end + 1) (omega (arith, cut_within))

-- cut at the first 0D
module _ (bs : List ℕ) (end : ℕ) (e : end ≡ index_of 0x0D bs) where
  line_first : take end bs ≡ first_line bs
  unfolding first_line
  line_first = rw e refl

  pub through-all : end ≡ length bs → bs ≡ through bs
  unfolding through
  through-all h = sym (take_all (suc (index_of 0x0D bs)) bs (omega arith))

  pub through-first : take (end + 1) bs ≡ through bs
  unfolding through
  through-first = rw (add-one end, e) refl

-- the label of the first line: the line lies where the script does
pub label-first : (table script : Bor (List ℕ)) (end b o : ℕ) (bs : List ℕ) → end ≡ index_of 0x0D script.now
    → record { block = b; at = o; bytes = bs } ≡ log_label table (record { ref_ptr = script.ref_ptr; now = take end script.now })
    → record { block = b; at = o; bytes = bs } ≡ log_label table (record script { now = first_line script.now })
label-first table script end b o bs e h =
    h
    ∙ label-alike table (record { ref_ptr = script.ref_ptr; now = take end script.now }) (record script { now = first_line script.now }) refl
    (line_first script.now end e)

pub ruleset cutting = (cut_within, cut_counts, behind_fits, behind_counts, through-all, through-first, label-first)
