-- That the answer to a get line tells its parameter and its value, and reads back.
use Rattle.std.specs.Prelude.{◌≡◌, true, ℕ, ◌+◌, ◌≤◌, ℤ, pos, length, get_or, take, Some}
use Rattle.std.proofs.Common.{◌∙◌, arith, length-append, SFits}
use mathlib.Core.List.{List, [], ◌∷◌, ◌++◌, append_assoc}
use Rattle.std.specs.Int.{w64}
use Rattle.text.specs.Cut.{index_of}
use Rattle.text.specs.Cut.Lacking.{index_joined}
use Rattle.text.specs.Byte.Values.{return_other}
use Rattle.catalogue.specs.Catalogue.{known_layout}
use Rattle.catalogue.specs.Groups.{PartIn}
use Rattle.catalogue.specs.declared.groups.Part.{Part}
use Rattle.values.specs.Control.Laws.{PartOf}
use Rattle.record.specs.Field.{label_right}
use Rattle.record.specs.Field.Bytes.{label_right_lem}
use Rattle.room.specs.Label.{label, bearer}
use Rattle.values.specs.Parameters.{parameters, parameters_of, parameter_at, place}
use Rattle.catalogue.specs.Row.{permitted}
use Rattle.room.specs.Table.{sound}
use Rattle.values.specs.declared.parameter.Parameter.{Parameter}
use Rattle.values.specs.Room.{Room, row_in}
use Rattle.values.specs.Room.Laws.{row_in-kind, row_in-settable}
use Rattle.line.specs.Said.Laws.{set_naming}
use Rattle.line.specs.Said.Texts.{part_put, part-back}
use Rattle.line.specs.Meaning.{meaning}
use Rattle.line.specs.Meaning.Laws.{puts_back}
use Rattle.spelling.specs.Reply.{as_set_line, get_reply}
use Rattle.spelling.specs.Reply.Laws.{get_spelled, reply_as_set}
use Rattle.spelling.specs.Text.{part_text}
use Rattle.spelling.specs.Text.Parts.{part-lacks}
use Rattle.line.specs.Said.Naming.{Reached, reached, reached_part, naming, parts_put, reached_sized, said-short, own_held, naming-short, naming-parts, rest, naming-rest, rest-no_return, verb_no_return}
use Rattle.line.specs.declared.meaning.Meaning.TheVariants.{Put}
use Rattle.line.specs.Told.{Told}

module _ (t : List ℕ) (p : Parameter) (u : Part) (v : ℤ) where
  abbrev text : List ℕ
  text = part_text p.row.kind u v

  reply_rest : get_reply t p u v ≡ 0x47 ∷ 0x41 ∷ (rest t p u (part_text p.row.kind u v) ++ (0x0D ∷ []))
  unfolding rest
  reply_rest = get_spelled t p u v ∙ simp append_assoc

  pub reply_naming : as_set_line (get_reply t p u v) ≡ naming t p u (part_text p.row.kind u v)
  reply_naming = reply_as_set t p u v ∙ set_naming t p u v

  pub reply_length : length (get_reply t p u v) ≡ length (naming t p u (part_text p.row.kind u v)) + 1
  reply_length = rw (reply_rest, naming-rest t p u text) (simp length-append (omega arith))

  -- whatever value of 64 bits is told, the reply is short, also where another module bears the label
  pub reply_within : label_right (label t p.owner) ≡ true → known_layout p.owner.layout ≡ true → parameter_at (parameters_of p.owner) p.number ≡ Some p
      → PartIn u → SFits w64 v → length (get_reply t p u v) ≤ 64
  reply_within right known own k f =
      let l = (label_right_lem (label t p.owner) right).most in
      let h = own_held p known own u v k f in
      rw (get_spelled t p u v) (simp length-append (omega arith))

  pub reply_held : Reached t p → PartIn u → SFits w64 v → length (get_reply t p u v) ≤ 64
  reply_held r k f = reply_within r.right r.known r.own k f

  reply_ends : Reached t p → index_of 0x0D (get_reply t p u v) + 1 ≡ length (get_reply t p u v)
  reply_ends r =
      let s = rest t p u text in
      let l : List ℕ = 0x47 ∷ 0x41 ∷ s in
      let n = rest-no_return t p r u text (part-lacks 0x0D p.row.kind u v return_other) in
      let h = verb_no_return 0x47 0x41 s (λ e. omega arith) (λ e. omega arith) n in
      rw (reply_rest, index_joined 0x0D l [] h) (simp length-append (omega arith))

  reply_verb : take 2 (get_reply t p u v) ≡ 0x47 ∷ 0x41 ∷ []
  reply_verb = rw (get_spelled t p u v)

  reached_told : Reached t p → PartOf p u → permitted p.row v ≡ true → Told t p u v (get_reply t p u v)
  reached_told r has h =
      let z = reached_sized t p r v h in
      let s = said-short t p r u v (reached_part t p r u has) z in
      record {
        verb = reply_verb;
        ends = reply_ends r;
        short = omega (arith, reply_length, naming-short t p r u text s);
        parts = rw reply_naming (naming-parts t p r u has text s);
        says = λ present. part-back p.row.kind u present v z;
      }

-- the reply that tells a part of a value of p that its own row permits
pub reply_told : (t : List ℕ) (k : ℕ) (p : Parameter) (u : Part) (v : ℤ) → sound t ≡ true → parameter_at (parameters t) k ≡ Some p
    → bearer t (label t p.owner) ≡ Some p.owner → PartOf p u → permitted p.row v ≡ true → Told t p u v (get_reply t p u v)
reply_told t k p u v s e o has h = reached_told t p u v (reached t k p s e o) has h

-- where the row may be set and the room permits it, the reply read as a set line puts the part that it tells: of a value told whole, this value
pub told-puts : (r : Room) (vs : List ℤ) (p : Parameter) (u : Part) (v : ℤ) (reply : List ℕ) → Told r.table p u v reply → p.row.settable ≡ true
    → permitted (row_in r p) (part_put u (get_or vs (place p) (pos 0)) v) ≡ true → meaning r vs (as_set_line reply) ≡ Put p (part_put u (get_or vs (place p) (pos 0)) v)
told-puts r vs p u v reply h s q =
    puts_back r vs (as_set_line reply) p (part_put u (get_or vs (place p) (pos 0)) v)
    (parts_put r vs p u (part_text p.row.kind u v) (as_set_line reply) (part_put u (get_or vs (place p) (pos 0)) v) h.parts
    (record { settable = row_in-settable r p ∙ s; says = rw (row_in-kind r p) (h.says (get_or vs (place p) (pos 0))); permits = q }))
