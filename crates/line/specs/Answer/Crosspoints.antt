-- What a line that names a cross-point does: it puts this output of the routing word, and leaves every other output and every other parameter as it was.
use Rattle.std.specs.Prelude.{◌≡◌, true, ℕ, ◌+◌, ◌≤◌, ◌<◌, ℤ, pos, nat_abs, get_or, set, Some}
use Rattle.std.proofs.Math.Path.{sym}
use Rattle.std.proofs.Common.{◌∙◌, ap, get_or-set_same, get_or-set_other}
use mathlib.Core.List.{List}
use Rattle.std.proofs.Math.ListN.{length}
use Rattle.text.specs.Cut.{part}
use Rattle.text.specs.Word.{bit, with_bit}
use Rattle.text.specs.Word.Outputs.{output_put, outputs_left}
use Rattle.catalogue.specs.declared.groups.Part.TheVariants.{Output}
use Rattle.room.specs.Table.{sound}
use Rattle.values.specs.Parameters.{place}
use Rattle.values.specs.Room.{Room}
use Rattle.values.specs.Room.Laws.{row_in-kind}
use Rattle.values.specs.Values.{values_sound}
use Rattle.values.specs.Values.Laws.{value_inside}
use Rattle.values.specs.declared.parameter.Parameter.{Parameter}
use Rattle.syntax.specs.Value.{read_output, read_part}
use Rattle.syntax.specs.Value.Crosspoint.{OutputSays, puts, output_told}
use Rattle.syntax.specs.Value.Parts.{part-output}
use Rattle.line.specs.Answer.{act, answer}
use Rattle.line.specs.Answer.Laws.{answered, puts-place}
use Rattle.line.specs.Meaning.{meaning}
use Rattle.line.specs.Meaning.Laws.{Puts, names_has, names_known, names_own, put_told}
use Rattle.line.specs.Meaning.Outputs.{part_in}
use Rattle.line.specs.declared.meaning.Meaning.TheVariants.{Put}

-- the values vs are followed by vs': of p's routing word output o is b, every other output is as it was, and so is every other value
pub record OutputPut (vs : List ℤ) (p : Parameter) (o b : ℕ) (vs' : List ℤ) : Type 0 where
  pub word : get_or vs' (place p) (pos 0) ≡ pos (with_bit o b (nat_abs (get_or vs (place p) (pos 0))))
  pub there : bit o (nat_abs (get_or vs' (place p) (pos 0))) ≡ b
  pub others : (q : ℕ) → q ≤ 32 → (o ≡ q → ⊥) → bit q (nat_abs (get_or vs' (place p) (pos 0))) ≡ bit q (nat_abs (get_or vs (place p) (pos 0)))
  pub elsewhere : (k : ℕ) → (k ≡ place p → ⊥) → get_or vs' k (pos 0) ≡ get_or vs k (pos 0)

put_there : (vs : List ℤ) (p : Parameter) (o b : ℕ) → place p < length vs → o ≤ 32 → b < 2
    → OutputPut vs p o b (set vs (place p) (pos (with_bit o b (nat_abs (get_or vs (place p) (pos 0))))))
put_there vs p o b inside most small =
    let w = nat_abs (get_or vs (place p) (pos 0)) in
    let e = get_or-set_same vs (place p) (pos (with_bit o b w)) (pos 0) inside in
    record {
      word = e;
      there = ap (λ x. bit o (nat_abs x)) e ∙ output_put o b w small;
      others = λ q l n. ap (λ x. bit q (nat_abs x)) e ∙ outputs_left o q b w small most l n;
      elsewhere = λ k n. get_or-set_other vs (place p) k (pos (with_bit o b w)) (pos 0) n;
    }

-- on or off
pub data Switched (vs : List ℤ) (p : Parameter) (o : ℕ) (vs' : List ℤ) : Type 0 where
  switched : (b : ℕ) → b < 2 → OutputPut vs p o b vs' → Switched vs p o vs'

module _ (r : Room) (vs : List ℤ) (line : List ℕ) (p : Parameter) (x : ℤ) (s : sound r.table ≡ true) (v : values_sound r vs ≡ true) (e : meaning r vs line ≡ Put p x) where
  abbrev said : Puts r vs line p x
  said = put_told r vs line p x e

  pub crosspoint-put : (o : ℕ) → (put_told r vs line p x e).control ≡ Output o → Switched vs p o (answer r vs line).values
  unfolding act
  crosspoint-put o k =
      let text = part line (said.equal + 1) (length line) in
      let label = part line (said.quote + 1) said.close in
      let indices = part line (said.close + 1) said.equal in
      let u = said.control in
      let says : read_part p.row.kind u (get_or vs (place p) (pos 0)) text ≡ Some x = rw (row_in-kind r p) at said.valued.says in
      let reads : read_output o (get_or vs (place p) (pos 0)) text ≡ Some x = sym (part-output p.row.kind o (get_or vs (place p) (pos 0)) text) ∙ rw k at says in
      let one = part_in p u (names_known r.table label indices p u s said.names) (names_own r.table label indices p u s said.names) (names_has r.table label indices p u s said.names) in
      let inside = value_inside r vs (place p) p v (puts-place r vs line p x s said) in
      rw (answered r vs line (Put p x) e) (go (one.most o k) inside (output_told o (get_or vs (place p) (pos 0)) text x reads))
    where
      go : {y : ℤ} {text : List ℕ} → o ≤ 32 → place p < length vs → OutputSays o (get_or vs (place p) (pos 0)) text y → Switched vs p o (set vs (place p) y)
      go most inside (puts b small n) = switched b small (put_there vs p o b inside most small)
