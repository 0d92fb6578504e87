-- How a switch is written: a rule for each return of the writer.
use Rattle.std.specs.Prelude.{◌≡◌, List, [], ◌∷◌, ℕ, ◌+◌, ◌≤◌, length}
use Rattle.std.proofs.Common.{eq-eqb, ne_eqb}
use Rattle.text.specs.Switch.{switch_text}
use Rattle.text.specs.Written.{Wrote}

pub switch-room : (n at long : ℕ) → at + length (switch_text n) ≤ long → at + 1 ≤ long
unfolding switch_text
switch-room n at long h = h

pub wrote_off : (l : List ℕ) (at n r : ℕ) (m : List ℕ) → n ≡ 0 → Wrote l at (70 ∷ []) r m → Wrote l at (switch_text n) r m
unfolding switch_text
wrote_off l at n r m e w = rw (eq-eqb n 0 e) w

pub wrote_on : (l : List ℕ) (at n r : ℕ) (m : List ℕ) → (n ≡ 0 → ⊥) → Wrote l at (79 ∷ []) r m → Wrote l at (switch_text n) r m
unfolding switch_text
wrote_on l at n r m e w = rw (ne_eqb n 0 e) w

pub ruleset switch-writing = (switch-room, wrote_off, wrote_on)
