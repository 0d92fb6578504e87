-- Value texts as they are written: they read back, and no text of the same value is shorter.
use Rattle.std.specs.Prelude.{◌≡◌, List, ℕ, zero, suc, ◌≤◌, ◌<◌, ℤ, pos, nat_abs, length, Some, None}
use Rattle.std.proofs.Common.{sym, ◌∙◌, ap, arith}
use Rattle.text.specs.Level.Laws.{level-shortest, level-back}
use Rattle.text.specs.Number.Laws.{number-back, number-shortest}
use Rattle.text.specs.Switch.{read_switch, switch_text}
use Rattle.text.specs.Switch.Laws.{off_back, on_back, switch-one, switch-length}
use Rattle.text.specs.Word.{bit, with_bit}
use Rattle.text.specs.Word.Outputs.{output_small}
use Rattle.text.specs.Word.Text.{word_back, word-only}
use Rattle.catalogue.specs.declared.groups.Part.{Part}
use Rattle.catalogue.specs.declared.groups.Part.TheVariants.{Whole, Output}
use Rattle.catalogue.specs.Catalogue.Sized.{Sized}
use Rattle.catalogue.specs.Catalogue.Sized as row
use Rattle.catalogue.specs.declared.row.Kind.{Kind}
use Rattle.catalogue.specs.declared.row.Kind.TheVariants as kind
use Rattle.spelling.specs.Text.{part_text, text_of}
use Rattle.spelling.specs.Text.Parts.{whole_text_lem, output_text}
use Rattle.spelling.specs.Text.Laws.{level_text_lem, number-text, switch_text_lem, word-text}
use Rattle.syntax.specs.Value.{read_kind, read_output, read_part}
use Rattle.syntax.specs.Value.Crosspoint.{OutputSays, puts, output_told, output_on, output_off}
use Rattle.syntax.specs.Value.Parts.{part-whole, part-output}
use Rattle.syntax.specs.Value.Says.{Says, level, number, on, off, turned, word, kind-said, kind-told}

-- ---- what is written is read back

says : (present : ℤ) {k : Kind} {x : ℤ} → Sized k x → Says present (text_of k x) k x
says present (row.level v h) = level v (rw (level_text_lem v) (level-back v h))
says present row.off = off (rw (switch_text_lem (pos 0)) off_back)
says present row.on = on (rw (switch_text_lem (pos 1)) on_back)
says present (row.number n h) = number n (rw (number-text (pos n)) (number-back 5 n (omega arith) h))
says present (row.word w h) = word w (rw (word-text (pos w)) (word_back w h))

pub text-back : (k : Kind) (x present : ℤ) → Sized k x → read_kind k present (text_of k x) ≡ Some x
text-back k x present h = kind-said present x (text_of k x) k (says present h)

-- ---- no shorter text says the same value

pub text-shortest : (k : Kind) (present x : ℤ) (s : List ℕ) → read_kind k present s ≡ Some x → length (text_of k x) ≤ length s
text-shortest k present x s h = go (kind-told present x s k h)
  where
    switched : (x : ℤ) → (read_switch s ≡ None → ⊥) → length (text_of kind.Switch x) ≤ length s
    switched x n = rw (switch_text_lem x) (omega (arith, switch-length (nat_abs x), switch-one s n))

    go : {k : Kind} {x : ℤ} → Says present s k x → length (text_of k x) ≤ length s
    go (level v e) = rw (level_text_lem v) (level-shortest s v e)
    go (number n e) = rw (number-text (pos n)) (number-shortest 5 s n e)
    go (word w e) = rw (word-text (pos w), ← word-only s w e) (omega arith)
    go (on e) = switched _ (λ f. let z : ◌≡◌ {A = ℕ} 0 1 = cc in omega arith)
    go (off e) = switched _ (λ f. let z : ◌≡◌ {A = ℕ} 0 1 = cc in omega arith)
    go (turned e) = switched _ (λ f. let z : ◌≡◌ {A = ℕ} 0 1 = cc in omega arith)

-- ---- the text of a part

-- the value that is put where the part of x is said to a parameter with the present value v: x itself, or v with one output as in x
unfoldable pub part_put : Part → (v x : ℤ) → ℤ
part_put Whole v x = x
part_put (Output o) v x = pos (with_bit o (bit o (nat_abs x)) (nat_abs v))

bit-back : (o : ℕ) (v : ℤ) (b : ℕ) → b < 2 → read_output o v (switch_text b) ≡ Some (pos (with_bit o b (nat_abs v)))
bit-back o v zero l = output_off o v (switch_text 0) off_back
bit-back o v (suc zero) l = output_on o v (switch_text 1) on_back
bit-back o v (suc (suc b)) l = absurd (omega arith)

pub part-back : (k : Kind) (u : Part) (v x : ℤ) → Sized k x → read_part k u v (part_text k u x) ≡ Some (part_put u v x)
unfolding part_put
part-back k Whole v x h = part-whole k v (part_text k Whole x) ∙ ap (read_kind k v) (whole_text_lem k x) ∙ text-back k x v h
part-back k (Output o) v x h =
    part-output k o v (part_text k (Output o) x) ∙ ap (read_output o v) (output_text k o x) ∙ bit-back o v (bit o (nat_abs x)) (output_small o (nat_abs x))

pub part-shortest : (k : Kind) (u : Part) (v x : ℤ) (s : List ℕ) → read_part k u v s ≡ Some x → length (part_text k u x) ≤ length s
part-shortest k Whole v x s h = rw (whole_text_lem k x) (text-shortest k v x s (sym (part-whole k v s) ∙ h))
part-shortest k (Output o) v x s h = rw (output_text k o x) (go (output_told o v s x (sym (part-output k o v s) ∙ h)))
  where
    go : {x : ℤ} → OutputSays o v s x → length (switch_text (bit o (nat_abs x))) ≤ length s
    go {x} (puts b l n) = omega (arith, switch-length (bit o (nat_abs x)), switch-one s n)
