-- Replies of whole answers: how long they are, and what the answer to a get line tells.
use Rattle.std.specs.Prelude.{◌≡◌, true, List, ℕ, ◌+◌, ◌≤◌, ℤ, pos, length, get_or, Some}
use Rattle.std.proofs.Common.{sym, ◌∙◌, ap, arith}
use Rattle.catalogue.specs.Groups.{PartIn}
use Rattle.catalogue.specs.declared.groups.Part.{Part}
use Rattle.catalogue.specs.declared.groups.Part.TheVariants.{Whole}
use Rattle.catalogue.specs.declared.row.Kind.TheVariants.{Word}
use Rattle.values.specs.Control.Laws.{PartOf}
use Rattle.room.specs.Label.{label, bearer}
use Rattle.values.specs.Parameters.{place}
use Rattle.room.specs.Table.{sound}
use Rattle.values.specs.Room.{Room}
use Rattle.values.specs.Room.Laws.{row_in-permits}
use Rattle.values.specs.Values.{values_sound}
use Rattle.values.specs.Values.Laws.{value_permitted}
use Rattle.values.specs.declared.parameter.Parameter.{Parameter}
use Rattle.text.specs.Cut.{part}
use Rattle.line.specs.Meaning.{meaning}
use Rattle.line.specs.Meaning.Laws.{Gets, names_has, names_known, names_label, names_own, get_told}
use Rattle.line.specs.Meaning.Outputs.{part_in}
use Rattle.spelling.specs.Line.{line_for}
use Rattle.spelling.specs.Reply.{as_set_line, get_reply}
use Rattle.spelling.specs.Reply.Laws.{reply_as_set}
use Rattle.spelling.specs.Say.{say}
use Rattle.spelling.specs.Say.Laws.{said-whole, say-line}
use Rattle.spelling.specs.Acknowledgement.Laws.{ack-length, nak-length}
use Rattle.line.specs.Told.{Told}
use Rattle.line.specs.Told.Laws.{reply_told}
use Rattle.line.specs.Answer.{act, answer}
use Rattle.line.specs.Answer.Laws.{Effect, malformed, refused, told, put, gets_place, answered, effect}
use Rattle.line.specs.declared.meaning.Meaning.TheVariants.{Get}

pub gets_label : (t line : List ℕ) (p : Parameter) (u : Part) → sound t ≡ true → Gets t line p u → bearer t (label t p.owner) ≡ Some p.owner
gets_label t line p u s h = names_label t (part line (h.quote + 1) h.close) (part line (h.close + 1) (length line)) p u s h.names

pub gets_has : (t line : List ℕ) (p : Parameter) (u : Part) → sound t ≡ true → Gets t line p u → PartOf p u
gets_has t line p u s h = names_has t (part line (h.quote + 1) h.close) (part line (h.close + 1) (length line)) p u s h.names

pub gets_part : (t line : List ℕ) (p : Parameter) (u : Part) → sound t ≡ true → Gets t line p u → PartIn u
gets_part t line p u s h =
    let label = part line (h.quote + 1) h.close in
    let indices = part line (h.close + 1) (length line) in
    part_in p u (names_known t label indices p u s h.names) (names_own t label indices p u s h.names) (gets_has t line p u s h)

-- read as a set line, the answer to a get line is the line that sets the part asked for to the present value
pub get_as_set : (r : Room) (vs : List ℤ) (line : List ℕ) (p : Parameter) (u : Part) → meaning r vs line ≡ Get p u
    → as_set_line (answer r vs line).reply ≡ line_for 0x53 r.table p u (get_or vs (place p) (pos 0))
unfolding act
get_as_set r vs line p u e = rw (answered r vs line (Get p u) e) (reply_as_set r.table p u (get_or vs (place p) (pos 0)))

-- of what is no routing word that is the set line that is written for the value, whatever was present before
pub get_as_said : (r : Room) (vs : List ℤ) (line : List ℕ) (p : Parameter) (v : ℤ) → (p.row.kind ≡ Word → ⊥) → meaning r vs line ≡ Get p Whole
    → as_set_line (answer r vs line).reply ≡ say r.table p v (get_or vs (place p) (pos 0))
get_as_said r vs line p v n e =
    get_as_set r vs line p Whole e
    ∙ ap (λ u. line_for 0x53 r.table p u (get_or vs (place p) (pos 0))) (sym (said-whole p.row.kind v (get_or vs (place p) (pos 0)) n))
    ∙ sym (say-line r.table p v (get_or vs (place p) (pos 0)))

module _ (r : Room) (vs : List ℤ) (line : List ℕ) (s : sound r.table ≡ true) (v : values_sound r vs ≡ true) where
  gets_told : (p : Parameter) (u : Part) → Gets r.table line p u → Told r.table p u (get_or vs (place p) (pos 0)) (get_reply r.table p u (get_or vs (place p) (pos 0)))
  gets_told p u g =
      let e = gets_place r.table line p u s g in
      reply_told r.table (place p) p u (get_or vs (place p) (pos 0)) s e (gets_label r.table line p u s g) (gets_has r.table line p u s g)
      (row_in-permits r p (get_or vs (place p) (pos 0)) (value_permitted r vs (place p) p v e))

  -- the answer to a get line names the part asked for and tells its present value
  pub get_answer : (p : Parameter) (u : Part) → meaning r vs line ≡ Get p u → Told r.table p u (get_or vs (place p) (pos 0)) (answer r vs line).reply
  unfolding act
  get_answer p u e = rw (answered r vs line (Get p u) e) (gets_told p u (get_told r vs line p u e))

  -- no reply is longer than 51 bytes
  pub reply_limit_lem : length (answer r vs line).reply ≤ 51
  reply_limit_lem = go (effect r vs line s)
    where
      go : Effect r vs line → length (answer r vs line).reply ≤ 51
      go (malformed k n m e) = rw e (omega (arith, nak-length 99))
      go (refused n m e) = rw e (omega (arith, nak-length n))
      go (told p u m g l e) = rw e (gets_told p u g).short
      go (put p x m g l e) = rw e (omega (arith, ack-length))
