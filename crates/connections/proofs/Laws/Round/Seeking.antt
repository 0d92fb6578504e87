-- Rules for seeking the next connection that waits, and for the last served.
use Rattle.std.specs.Prelude.{◌≡◌, refl, Bool, true, false, cond, List, ℕ, suc, ◌+◌, ◌-◌, ◌%◌, ◌≤◌, ◌<◌, ltb, get_or, None, Option, Some}
use Rattle.std.proofs.Common.{sym, ◌∙◌, ap, arith}
use Rattle.connections.specs.Round.{last_after, waits_by, seek, next}

pub waits-open : (flags : List Bool) (counts : List ℕ) (i : ℕ) → get_or flags i false ≡ true → ltb 0 (get_or counts i 0) ≡ waits_by flags counts i
unfolding waits_by
waits-open flags counts i h = rw h refl

pub waits-closed : (flags : List Bool) (counts : List ℕ) (i : ℕ) → get_or flags i false ≡ false → false ≡ waits_by flags counts i
unfolding waits_by
waits-closed flags counts i h = rw h refl

pub waits-flag : (flags : List Bool) (counts : List ℕ) (i : ℕ) → get_or flags i false ≡ false → get_or flags i false ≡ waits_by flags counts i
waits-flag flags counts i h = h ∙ waits-closed flags counts i h

-- so many were passed, and none of them waits
pub record Sought (last : ℕ) (waits : ℕ → Bool) (passed : ℕ) : Type 0 where
  pub within : passed ≤ 32
  pub rest : next last waits ≡ seek (32 - passed) passed last waits

pub sought_start : (last : ℕ) (waits : ℕ → Bool) → Sought last waits 0
unfolding next
sought_start last waits = record { within = omega arith; rest = refl }

one_more : (left passed last i : ℕ) (waits : ℕ → Bool) (b : Bool) → i ≡ (last + 1 + passed) % 32 → waits i ≡ b
    → seek (suc left) passed last waits ≡ cond b (Some i) (seek left (passed + 1) last waits)
unfolding seek
one_more left passed last i waits b e h = rw (← e, h) refl

pub sought_found : (last passed i : ℕ) (waits : ℕ → Bool) (b : Bool) → Sought last waits passed → passed < 32 → i ≡ (last + 1 + passed) % 32 → b ≡ waits i → b ≡ true
    → Some i ≡ next last waits
sought_found last passed i waits b s l e h t =
    let q : 32 - passed ≡ suc (32 - (passed + 1)) = omega arith in
    sym (s.rest ∙ ap (λ n. seek n passed last waits) q ∙ one_more (32 - (passed + 1)) passed last i waits true e (sym h ∙ t))

pub sought_next : (last passed i : ℕ) (waits : ℕ → Bool) (b : Bool) → Sought last waits passed → passed < 32 → i ≡ (last + 1 + passed) % 32 → b ≡ waits i → b ≡ false
    → Sought last waits (passed + 1)
sought_next last passed i waits b s l e h t =
    let q : 32 - passed ≡ suc (32 - (passed + 1)) = omega arith in
    record {
      within = omega arith;
      rest = s.rest ∙ ap (λ n. seek n passed last waits) q ∙ one_more (32 - (passed + 1)) passed last i waits false e (sym h ∙ t);
    }

pub sought_all : (last passed : ℕ) (waits : ℕ → Bool) → Sought last waits passed → 32 ≤ passed → None ≡ next last waits
unfolding seek
sought_all last passed waits s l =
    let q : 32 - passed ≡ 0 = omega arith in
    sym (s.rest ∙ ap (λ n. seek n passed last waits) q)

pub ruleset seeking = (waits-open, waits-flag, sought_start, sought_found, sought_next, sought_all)

-- ---- the last served

pub last_nobody : (last : ℕ) (s : Option ℕ) → s ≡ None → last ≡ last_after last s
unfolding last_after
last_nobody last s e = rw e refl

pub last_one : (last i : ℕ) (s : Option ℕ) → s ≡ Some i → i ≡ last_after last s
unfolding last_after
last_one last i s e = rw e refl

pub ruleset lasting = (last_nobody, last_one)
