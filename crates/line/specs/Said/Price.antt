-- What a line that puts a value costs at least: it names a part of the parameter, and is no shorter than the set line of that part.
use Rattle.std.specs.Prelude.{◌≡◌, refl, true, List, ℕ, ◌+◌, ◌≤◌, ◌<◌, ℤ, pos, nat_abs, length, get_or, Some}
use Rattle.std.proofs.Common.{sym, ◌∙◌, ap, arith}
use Rattle.text.specs.Cut.{part}
use Rattle.text.specs.Cut.Part.{part_length}
use Rattle.text.specs.Word.{with_bit}
use Rattle.catalogue.specs.Groups.{PartIn, groups_of}
use Rattle.catalogue.specs.declared.groups.Part.{Part}
use Rattle.catalogue.specs.declared.groups.Part.TheVariants.{Whole, Output}
use Rattle.catalogue.specs.declared.row.Kind.TheVariants.{Word}
use Rattle.room.specs.Label.{label}
use Rattle.room.specs.Label.Laws.{bearer-found}
use Rattle.values.specs.Parameters.{place}
use Rattle.values.specs.Control.Laws.{PartOf, all, output, named-told}
use Rattle.room.specs.Table.{sound}
use Rattle.values.specs.declared.parameter.Parameter.{Parameter}
use Rattle.syntax.specs.Shape.Laws.{set_ordered}
use Rattle.line.specs.Said.Indices.{indices-shortest}
use Rattle.line.specs.Said.Texts.{part-shortest}
use Rattle.line.specs.Meaning.Outputs.{part_in}
use Rattle.values.specs.Room.{Room}
use Rattle.values.specs.Room.Laws.{row_in-kind}
use Rattle.line.specs.Meaning.{meaning}
use Rattle.line.specs.Meaning.Laws.{Names, names_has, names_known, names_own, put_told}
use Rattle.spelling.specs.IndexText.{index_text}
use Rattle.spelling.specs.Line.{line_for}
use Rattle.spelling.specs.Line.Laws.{line_length}
use Rattle.line.specs.declared.meaning.Meaning.TheVariants.{Put}
use Rattle.syntax.specs.Value.{read_part}
use Rattle.syntax.specs.Value.Crosspoint.{OutputSays, puts, output_told}
use Rattle.syntax.specs.Value.Parts.{part-output}

-- the label stands in the line as in the table, and the index groups take no less than their digits
names_length : (t text indices : List ℕ) (p : Parameter) (u : Part) → sound t ≡ true → Names t text indices p u
    → length (label t p.owner) + length (index_text (groups_of p.row.indices u)) ≤ length text + length indices
names_length t text indices p u s h =
    let l : length (label t p.owner) ≡ length text = ap length (bearer-found t text p.owner s h.one).labelled in
    let i = (named-told p.owner h.groups p u h.names).groups in
    omega (arith, indices-shortest indices (groups_of p.row.indices u) (h.right ∙ ap Some (sym i)))

-- a line that takes p from v to x: it says x whole, or puts one output of a routing word
pub data Costs (t : List ℕ) (p : Parameter) (v x : ℤ) (line : List ℕ) : Type 0 where
  by_whole : length (line_for 0x53 t p Whole x) ≤ length line → Costs t p v x line
  by_output : (o b : ℕ) → p.row.kind ≡ Word → 1 ≤ o → o ≤ 32 → b < 2 → x ≡ pos (with_bit o b (nat_abs v)) → length (line_for 0x53 t p (Output o) x) ≤ length line
      → Costs t p v x line

costs : (t : List ℕ) (p : Parameter) (v x : ℤ) (line s : List ℕ) (u : Part) → PartOf p u → PartIn u → read_part p.row.kind u v s ≡ Some x
    → length (line_for 0x53 t p u x) ≤ length line → Costs t p v x line
costs t p v x line s u all k e h = by_whole h
costs t p v x line s u (output o w some most) k e h = go (output_told o v s x (sym (part-output p.row.kind o v s) ∙ e)) h
  where
    go : {y : ℤ} → OutputSays o v s y → length (line_for 0x53 t p (Output o) y) ≤ length line → Costs t p v y line
    go (puts b l n) h = by_output o b w some (k.most o refl) l refl h

pub put_costs : (r : Room) (vs : List ℤ) (line : List ℕ) (p : Parameter) (x : ℤ) → sound r.table ≡ true → meaning r vs line ≡ Put p x
    → Costs r.table p (get_or vs (place p) (pos 0)) x line
put_costs r vs line p x s e =
    let t = r.table in
    let h = put_told r vs line p x e in
    let u = h.control in
    let text = part line (h.quote + 1) h.close in
    let indices = part line (h.close + 1) h.equal in
    let o = set_ordered line h.quote h.close h.equal h.shaped in
    let n = names_length t text indices p u s h.names in
    let says = rw (row_in-kind r p) at h.valued.says in
    let w = part-shortest p.row.kind u (get_or vs (place p) (pos 0)) x (part line (h.equal + 1) (length line)) says in
    let a = part_length line (h.quote + 1) h.close (omega arith) in
    let b = part_length line (h.close + 1) h.equal (omega arith) in
    let c = part_length line (h.equal + 1) (length line) (omega arith) in
    let has = names_has t text indices p u s h.names in
    costs t p (get_or vs (place p) (pos 0)) x line (part line (h.equal + 1) (length line)) u has
    (part_in p u (names_known t text indices p u s h.names) (names_own t text indices p u s h.names) has) says
    (omega (arith, line_length 0x53 t p u x))
