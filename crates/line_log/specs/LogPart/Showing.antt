-- How the part that the log shows is found: a rule for each return and each sum.
use Rattle.std.specs.Prelude.{◌≡◌, refl, Bool, false, cond, not, ◌&&◌, List, ℕ, ◌+◌, ◌-◌, ◌≤◌, ◌<◌, length, take, drop, Option, Some, None}
use Rattle.std.proofs.Common.{sym, ◌∙◌, arith, length-take, length-drop, Fits}
use Rattle.std.proofs.Math.Path.{ap}
use Rattle.std.proofs.Math.Bool.{true}
use borrow.Author.Tests.{not-true, lt-ltb, le-ltb}
use Rattle.std.proofs.Math.Dec.{ltb}
use Rattle.std.specs.Int.{w64}
use Rattle.text.specs.Cut.{index_of, first_from, part}
use Rattle.text.specs.Cut.From.{found_from, from_after}
use Rattle.room.specs.Label.{bearer}
use Rattle.room.specs.Label.Laws.{bearer-found}
use Rattle.room.specs.Table.{sound}
use Rattle.room.specs.declared.table.Module.{Module}
use Rattle.line_log.specs.LogPart.{first_quote, second_quote, shown, log_part}
use Rattle.room.specs.Label.Length.{label-short}
use Rattle.line_log.specs.declared.part.LogPart.{LogPart}
use Rattle.line_log.specs.declared.part.LogPart.TheVariants.{Table, Line}
use Rattle.text.specs.Cut.Laws.{index_within}
use Rattle.text.specs.Cut.Part.{part-is}
use Rattle.text.specs.Every.Laws.{test_held}

-- ---- the table

pub no_table : (t line : List ℕ) (b : Bool) → b ≡ sound t → not b ≡ true → None ≡ log_part t line
unfolding log_part
no_table t line b e n = let s : sound t ≡ false = sym e ∙ not-true b n in rw s

-- ---- the quotes

-- with fewer than two quotes the second place lies past the line
unquoted : (t line : List ℕ) → length line ≤ second_quote line → None ≡ log_part t line
unfolding log_part
unquoted t line h = rw (le-ltb (second_quote line) (length line) h) (go (sound t))
  where
    go : (b : Bool) → None ≡ cond (b && false) (Some (shown (first_quote line + 1) (second_quote line) (bearer t (part line (first_quote line + 1) (second_quote line))))) None
    go true = refl
    go false = refl

pub no_quote : (t line : List ℕ) (first : ℕ) → first ≡ index_of 0x22 line → length line ≤ first → None ≡ log_part t line
unfolding second_quote first_quote
no_quote t line first e h = unquoted t line (omega (arith, from_after 0x22 (index_of 0x22 line + 1) line))

pub behind_fits : (line : List ℕ) (first : ℕ) → first < length line → Fits w64 (length line) → Fits w64 (first + 1)
behind_fits line first l f = record { fits = omega (arith, f.fits) }

-- what is found from a place on lies within the line, or at that place
pub found-fits : (line : List ℕ) (b start next : ℕ) → next ≡ index_of b (take (length line - start) (drop start line)) → Fits w64 start
    → Fits w64 (length line) → Fits w64 (start + next)
found-fits line b start next e s f =
    let rest = take (length line - start) (drop start line) in
    let w = index_within b rest in
    record { fits = omega (arith, s.fits, f.fits, length-take (length line - start) (drop start line), length-drop start line) }

module _ (line : List ℕ) (first next : ℕ) (e : first ≡ index_of 0x22 line) (b : first < length line)
    (f : next ≡ index_of 0x22 (take (length line - (first + 1)) (drop (first + 1) line))) where
  second_is : first + 1 + next ≡ second_quote line
  unfolding second_quote first_quote
  second_is = found_from 0x22 (first + 1) next line (omega arith) f ∙ ap (λ n. first_from 0x22 (n + 1) line) e

  pub one_quote : (t : List ℕ) → length line ≤ first + 1 + next → None ≡ log_part t line
  one_quote t h = unquoted t line (rw second_is at h)

  pub both_quotes : (t : List ℕ) (c : Bool) (r : LogPart) → c ≡ sound t → not c ≡ false → first + 1 + next < length line
      → r ≡ shown (first + 1) (first + 1 + next) (bearer t (part line (first + 1) (first + 1 + next))) → Some r ≡ log_part t line
  unfolding log_part first_quote
  both_quotes t c r q n h k =
      let l : ltb (second_quote line) (length line) ≡ true = lt-ltb (second_quote line) (length line) (rw second_is at h) in
      rw (test_held c (sound t) q n, l, ← second_is, ← e) (ap Some k)

pub ruleset finding = (test_held, no_table, no_quote, behind_fits, found-fits, one_quote, both_quotes)

-- ---- the module that bears the text

text-short : (t text : List ℕ) (m : Module) → sound t ≡ true → bearer t text ≡ Some m → length text ≤ 32
text-short t text m s e = label-short t m (length text) (ap length (sym (bearer-found t text m s e).labelled))

module _ (t line : List ℕ) (a e : ℕ) (g : Option Module) (s : sound t ≡ true) (o : a ≤ e) (l : e ≤ length line) (r : g ≡ bearer t (take (e - a) (drop a line))) where
  pub label-room : (m : Module) → g ≡ Some m → m.place + 1 + (e - a) ≤ length t
  label-room m k =
      let text = take (e - a) (drop a line) in
      let b : bearer t text ≡ Some m = sym r ∙ k in
      let h = (bearer-found t text m s b).room in
      let w = text-short t text m s b in
      omega (arith, length-take (e - a) (drop a line), length-drop a line)

  pub label-fits : (m : Module) → g ≡ Some m → Fits w64 (length t) → Fits w64 (m.place + 1)
  label-fits m k f = let h = label-room m k in record { fits = omega (arith, f.fits) }

  pub label-end_fits : (m : Module) → g ≡ Some m → Fits w64 (length t) → Fits w64 (m.place + 1 + (e - a))
  label-end_fits m k f = let h = label-room m k in record { fits = omega (arith, f.fits) }

  pub table_part : (m : Module) → g ≡ Some m → Table (m.place + 1) (m.place + 1 + (e - a)) ≡ shown a e (bearer t (part line a e))
  unfolding shown
  table_part m k = rw (part-is line a e) (ap (shown a e) (sym k ∙ r))

  pub line_part : g ≡ None → Line a e ≡ shown a e (bearer t (part line a e))
  unfolding shown
  line_part k = rw (part-is line a e) (ap (shown a e) (sym k ∙ r))

pub ruleset showing = (label-fits, label-end_fits, table_part, line_part)
