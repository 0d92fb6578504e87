-- The set line that is written is made of bytes, has no 0D, and reads back as a put of its value.
use Rattle.std.specs.Prelude.{◌≡◌, Bool, true, false, List, [], ◌∷◌, ℕ, ◌≤◌, ◌<◌, ◌^◌, leb, ℤ, nat_abs, length, get_or, set, None, Some}
use Rattle.std.proofs.Math.Path.{refl, ap}
use Rattle.std.proofs.Common.{sym, ◌∙◌, arith, leb-true, leb-false}
use Rattle.std.proofs.Math.IntN.{pos}
use Rattle.text.specs.Byte.{is_byte}
use Rattle.text.specs.Cut.{index_of}
use Rattle.text.specs.Every.{every}
use Rattle.text.specs.Byte.Values.{return_other}
use Rattle.record.specs.Field.Bytes.{label-bytes}
use Rattle.room.specs.Label.{label, bearer}
use Rattle.text.specs.Word.{bit, differing}
use Rattle.text.specs.Word.Apart.{differ-alone, differ-at}
use Rattle.values.specs.Control.Laws.{PartOf, all, output}
use Rattle.values.specs.Parameters.{parameters, parameter_at, place}
use Rattle.catalogue.specs.Row.{permitted}
use Rattle.room.specs.Table.{sound}
use Rattle.catalogue.specs.declared.groups.Part.{Part}
use Rattle.catalogue.specs.declared.row.Kind.{Kind}
use Rattle.catalogue.specs.declared.row.Kind.TheVariants.{Word}
use Rattle.values.specs.declared.parameter.Parameter.{Parameter}
use Rattle.line.specs.Meaning.Outputs.{word-bits, word-natural, word_of}
use Rattle.line.specs.Said.Texts.{part_put, part-back}
use Rattle.line.specs.Meaning.{meaning}
use Rattle.line.specs.Meaning.Laws.{puts_back}
use Rattle.spelling.specs.Acknowledgement.{ack}
use Rattle.line.specs.Answer.{act, answer}
use Rattle.values.specs.Room.{Room, row_in}
use Rattle.values.specs.Room.Laws.{row_in-kind, row_in-permits, row_in-settable}
use Rattle.values.specs.Settable.{Puttable}
use Rattle.line.specs.Answer.Laws.{answered}
use Rattle.spelling.specs.Say.{say, said_part}
use Rattle.spelling.specs.Line.{line_for}
use Rattle.spelling.specs.Line.Laws.{line_bytes, line_spelled}
use Rattle.spelling.specs.Say.Laws as said
use Rattle.spelling.specs.Say.Laws.{SaidBy, said-by, say-line}
use Rattle.spelling.specs.Text.{part_text}
use Rattle.spelling.specs.Text.Parts.{part-lacks}
use Rattle.line.specs.Said.Naming.{Reached, reached, reached_part, naming, parts_put, reached_sized, said-short, naming-short, naming-parts, rest, naming-rest, rest-no_return, verb_no_return}
use Rattle.line.specs.declared.meaning.Meaning.TheVariants.{Put}

-- the set line of a part, with the value's text in it
pub set_naming : (t : List ℕ) (p : Parameter) (u : Part) (x : ℤ) → line_for 0x53 t p u x ≡ naming t p u (part_text p.row.kind u x)
unfolding naming rest
set_naming t p u x = line_spelled 0x53 t p u x

no_return : (k : Kind) (u : Part) (x : ℤ) → index_of 0x0D (part_text k u x) ≡ length (part_text k u x)
no_return k u x = part-lacks 0x0D k u x return_other

naming-whole : (t : List ℕ) (p : Parameter) (u : Part) → Reached t p → (w : List ℕ) → index_of 0x0D w ≡ length w → index_of 0x0D (naming t p u w) ≡ length (naming t p u w)
naming-whole t p u r w h =
    rw (naming-rest t p u w) (verb_no_return 0x53 0x41 (rest t p u w) (λ e. omega arith) (λ e. omega arith) (rest-no_return t p r u w h))

-- a line without 0D that takes p from v to x
pub record Said (r : Room) (p : Parameter) (v x : ℤ) (line : List ℕ) : Type 0 where
  pub bytes : every is_byte line ≡ true
  pub whole : index_of 0x0D line ≡ length line
  pub short : length line ≤ 50
  pub means : (vs : List ℤ) → get_or vs (place p) (pos 0) ≡ v → meaning r vs line ≡ Put p x

-- the line that says the part u of x, where v with this part is x
module _ (r : Room) (p : Parameter) (u : Part) (v x : ℤ) (n : Reached r.table p) (has : PartOf p u) (s : p.row.settable ≡ true) (h : permitted (row_in r p) x ≡ true)
    (put : part_put u v x ≡ x) where
  part-said : Said r p v x (line_for 0x53 r.table p u x)
  part-said =
      let t = r.table in
      let z = reached_sized t p n x (row_in-permits r p x h) in
      let w = part_text p.row.kind u x in
      let short = said-short t p n u x (reached_part t p n u has) z in
      record {
        bytes = line_bytes 0x53 t p u x (omega arith) (label-bytes (label t p.owner) n.right);
        whole = rw (set_naming t p u x) (naming-whole t p u n w (no_return p.row.kind u x));
        short = rw (set_naming t p u x) (naming-short t p n u w short);
        means = λ vs e. rw (set_naming t p u x) (puts_back r vs (naming t p u w) p x
            (parts_put r vs p u w (naming t p u w) x (naming-parts t p n u has w short)
            (record {
              settable = row_in-settable r p ∙ s;
              says = rw (row_in-kind r p, e) (part-back p.row.kind u v x z ∙ ap Some put);
              permits = h;
            })));
      }

-- ---- which part is written, and that it puts the value

module _ (r : Room) (p : Parameter) (v x : ℤ) (n : Reached r.table p) (g : permitted (row_in r p) v ≡ true) (h : permitted (row_in r p) x ≡ true) where
  from : p.row.kind ≡ Word → nat_abs v < 2 ^ 32
  from k = word-bits p v n.known n.own (row_in-permits r p v g) k

  to : p.row.kind ≡ Word → nat_abs x < 2 ^ 32
  to k = word-bits p x n.known n.own (row_in-permits r p x h) k

  -- an output in which two words of a mixer differ is one of its outputs
  output_had : (o : ℕ) → p.row.kind ≡ Word → 1 ≤ o → o ≤ 32 → differing (nat_abs v) (nat_abs x) ≡ o ∷ [] → o ≤ p.owner.layout.outputs
  output_had o k some most e = go (leb o p.owner.layout.outputs) refl
    where
      off : (y : ℤ) → permitted (row_in r p) y ≡ true → p.owner.layout.outputs < o → bit o (nat_abs y) ≡ 0
      off y q l = (word_of p y n.known n.own (row_in-permits r p y q) k).off o l most

      go : (b : Bool) → leb o p.owner.layout.outputs ≡ b → o ≤ p.owner.layout.outputs
      go true t = leb-true o p.owner.layout.outputs t
      go false t =
          let l = leb-false o p.owner.layout.outputs t in
          absurd (differ-at (nat_abs v) (nat_abs x) o [] e (off v g l ∙ sym (off x h l)))

  said_has : {u : Part} → SaidBy p.row.kind v x u → PartOf p u
  said_has (said.plain k) = all
  said_has (said.same k e) = all
  said_has (said.alone o k l m e) = output o k l (output_had o k l m e)
  said_has (said.more o q os k e) = all

  said-puts : {u : Part} → SaidBy p.row.kind v x u → part_put u v x ≡ x
  unfolding part_put
  said-puts (said.plain k) = refl
  said-puts (said.same k e) = refl
  said-puts (said.alone o k l m e) =
      ap pos (differ-alone (nat_abs v) (nat_abs x) (from k) (to k) o e) ∙ word-natural x k (reached_sized r.table p n x (row_in-permits r p x h))
  said-puts (said.more o q os k e) = refl

-- the set line between two values that are permitted in the room
pub say-said : (r : Room) (k : ℕ) (p : Parameter) (v x : ℤ) → sound r.table ≡ true → parameter_at (parameters r.table) k ≡ Some p
    → bearer r.table (label r.table p.owner) ≡ Some p.owner → p.row.settable ≡ true → permitted (row_in r p) v ≡ true → permitted (row_in r p) x ≡ true
    → Said r p v x (say r.table p v x)
say-said r k p v x s e o w g h =
    let n = reached r.table k p s e o in
    let by = said-by p.row.kind v x in
    rw (say-line r.table p v x) (part-said r p (said_part p.row.kind v x) v x n (said_has r p v x n g h by) w h (said-puts r p v x n g h by))

-- whatever some line can put, the set line that is written puts
pub say-puttable : (r : Room) (p : Parameter) (v x : ℤ) → sound r.table ≡ true → permitted (row_in r p) v ≡ true → Puttable r p x → Said r p v x (say r.table p v x)
say-puttable r p v x s g h = let n = h.reached in say-said r (place p) p v x s n.listed n.only n.settable g h.permits

-- it is acknowledged, and sets the value at p's place
pub said-answer : (r : Room) (vs : List ℤ) (p : Parameter) (v x : ℤ) (line : List ℕ) → Said r p v x line → get_or vs (place p) (pos 0) ≡ v
    → answer r vs line ≡ record { reply = ack; values = set vs (place p) x; fault = None }
unfolding act
said-answer r vs p v x line h e = answered r vs line (Put p x) (h.means vs e)
