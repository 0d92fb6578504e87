-- The part that the log shows lies within the table or within the line: a rule for each part that is lent on.
use Rattle.std.specs.Prelude.{◌≡◌, refl, Bool, true, false, cond, ◌&&◌, List, ℕ, ◌+◌, ◌-◌, ◌≤◌, ltb, length, take, drop, Option, Some, None}
use Rattle.room.specs.declared.table.Module.{Module}
use Rattle.std.proofs.Common.{sym, ◌∙◌, subst, arith, ltb-true}
use Rattle.std.proofs.Math.Path.{ap}
use Rattle.std.specs.Borrow.{Bor}
use Rattle.text.specs.Cut.{part}
use Rattle.text.specs.Cut.From.{from_after}
use Rattle.text.specs.Cut.Part.{part-is}
use Rattle.room.specs.Label.{bearer}
use Rattle.room.specs.Table.{sound}
use Rattle.line_log.specs.Log.{part_of, part_shown, log_label}
use Rattle.line_log.specs.LogPart.{first_quote, second_quote, shown, log_part}
use Rattle.line_log.specs.LogPart.Showing.{label-room}
use Rattle.line_log.specs.declared.part.LogPart.{LogPart}
use Rattle.line_log.specs.declared.part.LogPart.TheVariants.{Table, Line}

-- ---- within

-- a to e are places of s, in order
record Places (s : List ℕ) (a e : ℕ) : Type 0 where
  order : a ≤ e
  end : e ≤ length s

abbrev Within : (t line : List ℕ) → Option LogPart → Type 0
Within t line (Some (Table a e)) = Places t a e
Within t line (Some (Line a e)) = Places line a e
Within t line None = Places line 0 0

quotes-ordered : (line : List ℕ) → first_quote line + 1 ≤ second_quote line
unfolding second_quote
quotes-ordered line = from_after 0x22 (first_quote line + 1) line

shown-within : (t line : List ℕ) (a e : ℕ) (g : Option Module) → sound t ≡ true → a ≤ e → e ≤ length line → g ≡ bearer t (part line a e) → Within t line (Some (shown a e g))
unfolding shown
shown-within t line a e (Some m) s o l r =
    let h = label-room t line a e (Some m) s o l (rw (part-is line a e) at r) m refl in
    record { order = omega arith; end = omega arith }
shown-within t line a e None s o l r = record { order = o; end = l }

part-within : (t line : List ℕ) → Within t line (log_part t line)
unfolding log_part
part-within t line = go (first_quote line + 1) (second_quote line) (quotes-ordered line) (sound t) (ltb (second_quote line) (length line)) refl refl
  where
    go : (a e : ℕ) → a ≤ e → (s q : Bool) → sound t ≡ s → ltb e (length line) ≡ q
        → Within t line (cond (s && q) (Some (shown a e (bearer t (part line a e)))) None)
    go a e o true true s q =
        let l = ltb-true e (length line) q in
        shown-within t line a e (bearer t (part line a e)) s o (omega arith) refl
    go a e o true false s q = record { order = omega arith; end = omega arith }
    go a e o false q s r = record { order = omega arith; end = omega arith }

module _ (t line : List ℕ) (r : Option LogPart) (a e : ℕ) (p : r ≡ log_part t line) where
  within : (q : Option LogPart) → r ≡ q → Within t line q
  within q h = subst (λ (x : Option LogPart). Within t line x) (sym p ∙ h) (part-within t line)

  pub table_order : r ≡ Some (Table a e) → a ≤ e
  table_order h = (within (Some (Table a e)) h).order

  pub table_end : r ≡ Some (Table a e) → e ≤ length t
  table_end h = (within (Some (Table a e)) h).end

  pub line_order : r ≡ Some (Line a e) → a ≤ e
  line_order h = (within (Some (Line a e)) h).order

  pub line_end : r ≡ Some (Line a e) → e ≤ length line
  line_end h = (within (Some (Line a e)) h).end

-- ---- the part lent on, by its block, its place and its bytes

module _ (table line : Bor (List ℕ)) (r : Option LogPart) (b o : ℕ) (bs : List ℕ) (p : r ≡ log_part table.now line.now) where
  lent : (s : Bor (List ℕ)) (a e : ℕ) → part_shown table line r ≡ part_of s a e → b ≡ s.ref_ptr.0 → o ≡ a + s.ref_ptr.1 → bs ≡ take (e - a) (drop a s.now)
      → record { block = b; at = o; bytes = bs } ≡ log_label table line
  unfolding log_label part_of
  lent s a e q x y z = rw (x, y, z, ← part-is s.now a e) (sym q ∙ ap (part_shown table line) p)

  pub table_lent : (a e : ℕ) → r ≡ Some (Table a e) → b ≡ table.ref_ptr.0 → o ≡ a + table.ref_ptr.1 → bs ≡ take (e - a) (drop a table.now)
      → record { block = b; at = o; bytes = bs } ≡ log_label table line
  unfolding part_shown
  table_lent a e h x y z = lent table a e (ap (part_shown table line) h) x y z

  pub line_lent : (a e : ℕ) → r ≡ Some (Line a e) → b ≡ line.ref_ptr.0 → o ≡ a + line.ref_ptr.1 → bs ≡ take (e - a) (drop a line.now)
      → record { block = b; at = o; bytes = bs } ≡ log_label table line
  unfolding part_shown
  line_lent a e h x y z = lent line a e (ap (part_shown table line) h) x y z

  pub nothing_lent : r ≡ None → b ≡ line.ref_ptr.0 → o ≡ line.ref_ptr.1 → bs ≡ take 0 line.now → record { block = b; at = o; bytes = bs } ≡ log_label table line
  unfolding part_shown
  nothing_lent h x y z = lent line 0 0 (ap (part_shown table line) h) x (omega arith) z

pub ruleset lending = (table_order, table_end, line_order, line_end, table_lent, line_lent, nothing_lent)
