-- Laws of a byte sought from a place on.
use Rattle.std.specs.Prelude.{◌≡◌, List, ◌∷◌, ◌++◌, ℕ, ◌+◌, ◌-◌, ◌<◌, ◌≤◌, length, get_or, take, drop}
use Rattle.std.proofs.Math.Path.{ap}
use Rattle.std.proofs.Common.{sym, ◌∙◌, arith, length-drop, drop_at, get_or-drop, take_all, Fits}
use Rattle.std.specs.Int.{w64}
use Rattle.text.specs.Cut.{index_of, first_from}
use Rattle.text.specs.Cut.First.{index_first, index_stands}
use Rattle.text.specs.Cut.Lacking.{index_joined}
use Rattle.text.specs.Cut.Laws.{index_within}

-- it stands there or behind
pub from_after : (b from : ℕ) (s : List ℕ) → from ≤ first_from b from s
unfolding first_from
from_after b from s = omega arith

-- where it stands within, it is b, and from that place on none stands before it
pub from_stands : (b from : ℕ) (s : List ℕ) → first_from b from s < length s → get_or s (first_from b from s) 0 ≡ b
unfolding first_from
from_stands b from s l =
    let w : index_of b (drop from s) < length (drop from s) = simp length-drop (omega arith) in
    sym (get_or-drop from s (index_of b (drop from s)) 0) ∙ index_stands b (drop from s) 0 w

pub from_first : (b from : ℕ) (s : List ℕ) (i : ℕ) → from ≤ i → i < first_from b from s → get_or s i 0 ≡ b → ⊥
unfolding first_from
from_first b from s i l m h =
    let p : from + (i - from) ≡ i = omega arith in
    index_first b (drop from s) (i - from) 0 (omega arith) (get_or-drop from s (i - from) 0 ∙ ap (λ n. get_or s n 0) p ∙ h)

-- behind a text x, and a text y without b
pub from_joined : (b : ℕ) (x y z : List ℕ) (from : ℕ) → length x ≡ from → index_of b y ≡ length y → first_from b from (x ++ (y ++ (b ∷ z))) ≡ from + length y
unfolding first_from
from_joined b x y z from e h = rw (drop_at x (y ++ (b ∷ z)) from e, index_joined b y z h)

-- code sought it in the rest, at i there
module _ (b from i : ℕ) (s : List ℕ) (l : from ≤ length s) (e : i ≡ index_of b (take (length s - from) (drop from s))) where
  sought : i ≡ index_of b (drop from s)
  sought =
      let n : length (drop from s) ≤ length s - from = simp length-drop (omega arith) in
      rw (take_all (length s - from) (drop from s) n) at e

  sought_within : from + i ≤ length s
  sought_within = omega (arith, sought, index_within b (drop from s), length-drop from s)

  pub sought_fits : length s < 18446744073709551616 → Fits w64 (from + i)
  sought_fits m = let w = sought_within in record { fits = omega arith }

  pub found_from : from + i ≡ first_from b from s
  unfolding first_from
  found_from = ap (λ n. from + n) sought

pub ruleset from_rules = (sought_fits, found_from)
