-- Rules for the code that takes the counts of a turn out of its bytes.
use Rattle.std.specs.Prelude.{◌≡◌, refl, List, ℕ, ◌+◌, ◌≤◌, ◌<◌, length, get_or, set, replicate}
use Rattle.std.proofs.Common.{◌∙◌, append-nil, arith, zero-add}
use Rattle.std.proofs.lemmas.List.Edits.{sets-eq}
use Rattle.text.specs.Written.Laws.{Copied, copy_start, copy_next, copy_end, bytes-by}

-- the first i counts are taken
pub record Counted (bytes : List ℕ) (i : ℕ) (counts : List ℕ) : Type 0 where
  pub all : length bytes ≡ 32
  pub long : length counts ≡ 32
  pub copied : Copied (replicate 32 0) 0 bytes i counts

zeros : length {A = ℕ} (replicate 32 0) ≡ 32
zeros = refl

pub counted_start : (bytes : List ℕ) → length bytes ≡ 32 → Counted bytes 0 (replicate 32 0)
counted_start bytes h = record { all = h; long = zeros; copied = copy_start (replicate 32 0) 0 bytes }

module _ (bytes : List ℕ) (i : ℕ) (counts : List ℕ) (c : Counted bytes i counts) where
  pub counted-within : i < length bytes → i < length counts
  counted-within l = omega (arith, c.all, c.long)

  pub counted_next : i < length bytes → Counted bytes (i + 1) (set counts i (get_or bytes i 0))
  counted_next l =
      let k : Copied (replicate 32 0) 0 bytes (i + 1) (set counts i (get_or bytes i 0)) = rw (zero-add i) at (copy_next (replicate 32 0) 0 bytes i counts c.copied l) in
      record { all = c.all; long = k.long ∙ zeros; copied = k }

  pub counted-all : length bytes ≤ i → counts ≡ bytes
  counted-all l =
      let w = bytes-by (copy_end (replicate 32 0) 0 bytes i counts c.copied l) in
      let n : length bytes ≡ 32 = c.all in
      w ∙ sets-eq bytes (replicate 32 0) 0 (omega (arith, n, zeros)) ∙ rw (zero-add (length bytes), n, append-nil bytes) refl

pub ruleset counting = (counted_start, counted-within, counted_next, counted-all)
