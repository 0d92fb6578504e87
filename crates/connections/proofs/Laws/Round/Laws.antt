-- Who is next: it waits, and none that waits stands before it in the round; nobody is next only where nobody waits.
use Rattle.std.specs.Prelude.{◌≡◌, refl, Bool, true, cond, ℕ, zero, suc, ◌+◌, ◌-◌, ◌%◌, ◌≤◌, ◌<◌, None, Option, Some}
use Rattle.std.proofs.Common.{sym, ◌∙◌, ap, arith}
use Rattle.std.proofs.Math.Bool.{false}
use Rattle.std.proofs.Math.Decide.{dec_le}
use Rattle.connections.specs.Round.{seek, next}

-- how many come before i in the round
unfoldable pub ahead : (last i : ℕ) → ℕ
ahead last i = (i + 31 - last) % 32

-- none of the connections with fewer than n ahead of them waits
abbrev pub NoneBefore : (last n : ℕ) → (ℕ → Bool) → Type 0
NoneBefore last n waits = (j : ℕ) → j < 32 → ahead last j < n → waits j ≡ false

-- who is next, as the rule says it
pub data Chosen (last : ℕ) (waits : ℕ → Bool) : Option ℕ → Type 0 where
  nobody : NoneBefore last 32 waits → Chosen last waits None
  one : (i : ℕ) → i < 32 → waits i ≡ true → NoneBefore last (ahead last i) waits → Chosen last waits (Some i)

-- the one that comes after d others
there : (last d : ℕ) → last < 32 → d < 32 → ((last + 1 + d) % 32 + 31 - last) % 32 ≡ d
there last d p q = omega arith

back : (last j : ℕ) → last < 32 → j < 32 → (last + 1 + (j + 31 - last) % 32) % 32 ≡ j
back last j p q = omega arith

none_more : (last d : ℕ) (waits : ℕ → Bool) → last < 32 → NoneBefore last d waits → waits ((last + 1 + d) % 32) ≡ false → NoneBefore last (d + 1) waits
unfolding ahead
none_more last d waits p h e j l k = go (dec_le d ((j + 31 - last) % 32))
  where
    go : Dec (d ≤ (j + 31 - last) % 32) → waits j ≡ false
    go (yes m) =
        let q : (j + 31 - last) % 32 ≡ d = omega arith in
        let b : (last + 1 + d) % 32 ≡ j = ap (λ n. (last + 1 + n) % 32) (sym q) ∙ back last j p l in
        ap waits (sym b) ∙ e
    go (no m) = h j l (omega arith)

seeks : (left d last : ℕ) (waits : ℕ → Bool) → last < 32 → d + left ≡ 32 → NoneBefore last d waits → Chosen last waits (seek left d last waits)
unfolding seek
seeks zero d last waits p e h = nobody (λ j l k. h j l (omega arith))
seeks (suc left) d last waits p e h =
    go (waits ((last + 1 + d) % 32)) refl (λ n. seeks left (d + 1) last waits p (omega arith) n)
  where
    go : (b : Bool) → waits ((last + 1 + d) % 32) ≡ b → (NoneBefore last (d + 1) waits → Chosen last waits (seek left (d + 1) last waits))
        → Chosen last waits (cond b (Some ((last + 1 + d) % 32)) (seek left (d + 1) last waits))
    go true t more = one ((last + 1 + d) % 32) (omega arith) t (unfold ahead in rw (there last d p (omega arith)) h)
    go false t more = more (none_more last d waits p h t)

-- who is next is chosen so
pub next-chosen : (last : ℕ) (waits : ℕ → Bool) → last < 32 → Chosen last waits (next last waits)
unfolding next
next-chosen last waits p = seeks 32 0 last waits p refl (λ j l k. absurd (omega arith))
