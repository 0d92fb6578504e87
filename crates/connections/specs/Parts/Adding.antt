-- Rules for counts taken from a length one by one, and added up.
use Rattle.std.specs.Prelude.{◌≡◌, refl, false, List, ℕ, zero, suc, ◌+◌, ◌-◌, ◌^◌, ◌≤◌, ◌<◌, eqb, length, get_or, drop}
use Rattle.std.proofs.Common.{sym, ◌∙◌, ap, arith, add-one, eq-eqb, ne_eqb, drop_of_length-le, drop-cons}
use Rattle.connections.specs.Parts.{connection_count, total, counts_right, part_start}
use Rattle.connections.specs.Parts.Laws.{start-next, start-total}

total-rest : (counts : List ℕ) (i : ℕ) → i < length counts → total (drop i counts) ≡ get_or counts i 0 + total (drop (i + 1) counts)
unfolding total
total-rest counts i l = rw (add-one, drop-cons counts i 0) refl

total-end : (counts : List ℕ) (i : ℕ) → length counts ≤ i → total (drop i counts) ≡ 0
unfolding total
total-end counts i l = rw (drop_of_length-le counts l) refl

-- i counts were taken from the length, and `left` of it is there for the others
pub record Taken (counts : List ℕ) (bytes i left : ℕ) : Type 0 where
  pub all : length counts ≡ 32
  pub rest : bytes + total (drop i counts) ≡ total counts + left

pub wrong_length : (counts : List ℕ) (bytes : ℕ) → (length counts ≡ 32 → ⊥) → false ≡ counts_right counts bytes
unfolding counts_right connection_count
wrong_length counts bytes h = rw (ne_eqb (length counts) 32 h) refl

right_by : (counts : List ℕ) (bytes : ℕ) → length counts ≡ 32 → counts_right counts bytes ≡ eqb (total counts) bytes
unfolding counts_right connection_count
right_by counts bytes h = rw (eq-eqb (length counts) 32 h) refl

first : (counts : List ℕ) → total (drop 0 counts) ≡ total counts
first counts = refl

pub taken_start : (counts : List ℕ) (bytes : ℕ) → length counts ≡ 32 → Taken counts bytes 0 bytes
taken_start counts bytes h = record { all = h; rest = omega (arith, first counts) }

pub taken_short : (counts : List ℕ) (bytes i left : ℕ) → Taken counts bytes i left → i < length counts → left < get_or counts i 0 → false ≡ counts_right counts bytes
taken_short counts bytes i left t l h =
    let e = total-rest counts i l in
    sym (right_by counts bytes t.all ∙ ne_eqb (total counts) bytes (λ q. omega (arith, e, t.rest, q, h)))

pub taken_next : (counts : List ℕ) (bytes i left : ℕ) → Taken counts bytes i left → i < length counts → get_or counts i 0 ≤ left → Taken counts bytes (i + 1) (left - get_or counts i 0)
taken_next counts bytes i left t l h = record { all = t.all; rest = omega (arith, total-rest counts i l, t.rest, h) }

pub taken_all : (counts : List ℕ) (bytes i left : ℕ) → Taken counts bytes i left → length counts ≤ i → eqb left 0 ≡ counts_right counts bytes
taken_all counts bytes i left t l = go left refl
  where
    go : (n : ℕ) → left ≡ n → eqb left 0 ≡ counts_right counts bytes
    go zero q = eq-eqb left 0 q ∙ sym (right_by counts bytes t.all ∙ eq-eqb (total counts) bytes (omega (arith, total-end counts i l, t.rest, q)))
    go (suc n) q = ne_eqb left 0 (λ z. omega arith) ∙ sym (right_by counts bytes t.all ∙ ne_eqb (total counts) bytes (λ z. omega (arith, total-end counts i l, t.rest, q, z)))

pub ruleset taking = (wrong_length, taken_start, taken_short, taken_next, taken_all)

-- the first i counts are added up
pub record Added (counts : List ℕ) (number i at : ℕ) : Type 0 where
  pub within : i ≤ number
  pub so_far : at ≡ part_start counts i

pub added_start : (counts : List ℕ) (number : ℕ) → Added counts number 0 0
unfolding part_start total
added_start counts number = record { within = omega arith; so_far = refl }

pub added_next : (counts : List ℕ) (number i at : ℕ) → Added counts number i at → number ≤ length counts → i < number → Added counts number (i + 1) (at + get_or counts i 0)
added_next counts number i at a h l = record { within = omega arith; so_far = omega (arith, a.so_far, start-next counts i (omega arith)) }

pub added_all : (counts : List ℕ) (number i at : ℕ) → Added counts number i at → number ≤ i → at ≡ part_start counts number
added_all counts number i at a l = let e : i ≡ number = omega (arith, a.within) in a.so_far ∙ ap (part_start counts) e

pub added_fits : (counts : List ℕ) (number i at : ℕ) → Added counts number i at → number ≤ length counts → total counts < 2 ^ 64 → i < number → at + get_or counts i 0 < 2 ^ 64
added_fits counts number i at a h k l = omega (arith, a.so_far, start-next counts i (omega arith), start-total counts (i + 1), k)

pub ruleset adding = (added_start, added_next, added_all, added_fits)
